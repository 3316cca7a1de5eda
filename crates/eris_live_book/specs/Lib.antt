pub mod LiveBookValues
pub mod Places
