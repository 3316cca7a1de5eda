pub mod LineCounts
pub mod Telling
