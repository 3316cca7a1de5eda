pub mod Ledgers
pub mod MapValues
pub mod Stores
