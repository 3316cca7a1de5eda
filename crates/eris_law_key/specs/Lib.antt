pub mod Quorums
pub mod Spoken
