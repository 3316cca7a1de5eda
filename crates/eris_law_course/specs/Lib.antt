pub mod Inputs
pub mod Accepted
pub mod Submitted
pub mod Asked
