pub mod Ranged
pub mod Counted
pub mod Answered
pub mod Evident
pub mod Goodness
