pub mod Members
pub mod EpochWorlds
pub mod Reading
pub mod Causes
pub mod Stamped
pub mod Fine
