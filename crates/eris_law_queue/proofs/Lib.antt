pub mod Spared
pub mod Freed
pub mod Chosen
pub mod Orderly
pub mod Staying
