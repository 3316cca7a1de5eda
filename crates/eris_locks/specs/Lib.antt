pub mod Shards
pub mod Locks
pub mod States
pub mod LockTable
pub mod ShardRun
pub mod WellFormed
pub mod Law
