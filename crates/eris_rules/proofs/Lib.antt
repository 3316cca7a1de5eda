pub mod ClientIds
mod DropExamples
mod EpochExamples
mod ExampleWords
mod GeneralExamples
pub mod InPlaceLaws
pub mod Opened
pub mod OuterLaws
mod PlainExamples
mod RefusalExamples
pub mod RunLaws
mod ViewExamples
