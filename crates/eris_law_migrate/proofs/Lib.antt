pub mod ClauseBytes
pub mod CutLines
pub mod EventLines
pub mod Headers
pub mod LineTexts
pub mod ListEnds
pub mod MigratedTexts
pub mod Widening
