pub mod ExactShards
pub mod MessageRangeLaws
pub mod SendLaws
