pub mod Entries
pub mod Steps
pub mod Counting
pub mod Completing
pub mod Fresh
pub mod Events
pub mod Standing
pub mod Resting
pub mod Asking
pub mod Numbering
pub mod Growing
pub mod Origins
mod Examples
pub mod Evident
