pub mod Orderly
pub mod Candidates
