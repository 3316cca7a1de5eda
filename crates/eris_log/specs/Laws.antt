-- Lemmas about the definitions of this crate.
pub mod Entries
pub mod Held
pub mod Parts
pub mod Places
pub mod Sorted
