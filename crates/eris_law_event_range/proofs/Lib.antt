pub mod AskRanges
pub mod EventRanges
