pub mod Crashes
pub mod Packets
pub mod Received
pub mod Noted
pub mod Carried
pub mod Calm
