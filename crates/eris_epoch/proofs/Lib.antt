-- Lemmas about the definitions of this crate.
pub mod Additions
pub mod EpochLaws
pub mod Heard
pub mod SameLaws
pub mod SortLaws
pub mod Stable
