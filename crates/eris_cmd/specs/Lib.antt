pub mod Answers
pub mod Commands
pub mod Headline
pub mod Laws
pub mod Named
pub mod Streams
