pub mod ServerSends
pub mod Actions
pub mod Calls
pub mod Courses
pub mod Merged
pub mod Delivered
pub mod NewStamps
pub mod Packets
