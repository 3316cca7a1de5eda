pub mod Submissions
pub mod Takings
