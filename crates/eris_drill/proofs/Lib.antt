pub mod AccountKeys
pub mod Words
pub mod Submits
pub mod Kept
pub mod Turns
