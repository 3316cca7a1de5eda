pub mod Stamping
pub mod Carrying
pub mod Counting
pub mod Answering
pub mod Submitting
pub mod Flowing
pub mod Stepping
