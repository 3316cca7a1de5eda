pub mod EventRanges
pub mod Limits
