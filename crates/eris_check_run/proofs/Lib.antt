pub mod Judging
pub mod TextLengths
