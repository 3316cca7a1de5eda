pub mod Examples
pub mod Fit
pub mod Lines
