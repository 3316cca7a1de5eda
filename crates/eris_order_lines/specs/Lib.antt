pub mod LinesSoFar
pub mod Noted
