pub mod Turns
pub mod Views
pub mod Drops
pub mod KeyLemma
pub mod Settles
pub mod Counted
pub mod Opened
pub mod Examples
