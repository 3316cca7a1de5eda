pub mod Answered
mod Examples
pub mod Growing
pub mod Running
pub mod Starting
