pub mod Lists
pub mod Steps
pub mod Ending
pub mod Books
pub mod Calls
pub mod Pending
pub mod Weights
