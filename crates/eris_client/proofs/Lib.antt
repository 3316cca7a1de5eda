pub mod AnsweredLaws
pub mod ItemByItem
pub mod Entries
pub mod Fits
pub mod ItemShards
pub mod ClientKinds
pub mod KnownKeys
pub mod Taken
