pub mod BodyText
pub mod ChangeText
pub mod ItemText
pub mod Items
pub mod MessageText
pub mod PartText
pub mod SentLines
pub mod Traces
