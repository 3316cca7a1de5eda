pub mod ConfigLimits
pub mod Configs
pub mod Each
pub mod Places
pub mod Quorums
pub mod StampPlaces
pub mod Stamps
pub mod TxnIds
