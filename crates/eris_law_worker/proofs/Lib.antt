pub mod Hearing
pub mod Delivering
