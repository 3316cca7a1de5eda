pub mod Answered
pub mod Assembled
pub mod ClientRanges
pub mod ClientValues
pub mod Halves
