pub mod AckCells
pub mod AckTallies
pub mod Holders
pub mod ViewTallies
pub mod ViewTallyFacts
