pub mod InputRuns
pub mod Images
