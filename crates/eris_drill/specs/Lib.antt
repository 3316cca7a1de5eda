pub mod Draws
pub mod DrillLines
pub mod DrillText
pub mod Submitted
pub mod Summaries
