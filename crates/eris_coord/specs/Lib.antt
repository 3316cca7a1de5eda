pub mod CoordinatorValues
pub mod Fitting
