pub mod ClientRuns
pub mod Counts
pub mod Courses
pub mod Rests
pub mod Bridges
