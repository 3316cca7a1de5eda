pub mod DropCounts
pub mod Notes
pub mod Requests
