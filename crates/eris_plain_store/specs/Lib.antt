pub mod Leaves
pub mod Ledgers
pub mod Listings
pub mod PlainValues
pub mod Stores
