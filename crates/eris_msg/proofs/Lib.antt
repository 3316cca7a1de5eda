pub mod Decodes
pub mod MessageFits
mod MessageLaws
