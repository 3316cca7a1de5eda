pub mod AnswerRanges
pub mod EpochRanges
pub mod PartRanges
pub mod RowRanges
pub mod SendRanges
pub mod SettlingRanges
pub mod ViewRanges
