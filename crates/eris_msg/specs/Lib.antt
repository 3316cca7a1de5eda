pub mod Messages
pub mod Spellings
