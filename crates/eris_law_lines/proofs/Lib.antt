pub mod EventScripts
pub mod Ink
