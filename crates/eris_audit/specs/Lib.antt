pub mod Histories
pub mod IsSerial
pub mod Lines
pub mod SerialRun
pub mod Stores
pub mod Verdicts
pub mod Tables
pub mod Turns
