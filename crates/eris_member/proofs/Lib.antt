pub mod Following
pub mod Kept
pub mod Others
pub mod Told
