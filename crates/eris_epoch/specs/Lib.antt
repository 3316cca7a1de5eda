pub mod Closing
pub mod ClosingFacts
pub mod ClosingSteps
pub mod EpochTallies
pub mod SamePackets
pub mod Sorting
pub mod TallyFacts
