pub mod Heard
pub mod Fronts
