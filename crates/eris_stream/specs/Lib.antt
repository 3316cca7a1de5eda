pub mod Faults
pub mod MemoryStreams
pub mod Transfers
