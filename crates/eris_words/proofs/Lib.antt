pub mod DecimalLaws
pub mod DigitLemmas
pub mod FormLaws
pub mod LineCuts
pub mod LineLemmas
mod ReadLemmas
pub mod SplitLaws
pub mod WordCuts
