pub mod Checks
pub mod VerdictTexts
