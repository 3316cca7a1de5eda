pub mod Counted
pub mod KeptFrames
pub mod Limits
pub mod Networks
pub mod WaitingNumbers
