mod Cuts
pub mod FrameLaws
pub mod Streams
mod Windows
