pub mod MessageRanges
