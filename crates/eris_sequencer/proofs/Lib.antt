pub mod AskLaws
pub mod Examples
pub mod NumberLaws
pub mod SequencerLaws
pub mod StampLaws
