pub mod Bytes
pub mod SeatLists
pub mod SmallBooks
