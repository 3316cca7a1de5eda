pub mod Answers
pub mod Codecs
pub mod Fields
pub mod Parts
pub mod Ranges
