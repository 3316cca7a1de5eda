pub mod Lists
pub mod Packets
pub mod Turns
pub mod Parts
pub mod Seats
pub mod Answers
