pub mod Transactions
pub mod Shares
pub mod Evidence
pub mod Cuts
pub mod Joining
pub mod Times
