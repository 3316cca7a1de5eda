pub mod Becoming
pub mod Checking
pub mod Listed
pub mod WorldFacts
pub mod WorldValues
