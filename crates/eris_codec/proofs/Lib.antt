pub mod BodyLaws
mod Chain
pub mod FieldLaws
pub mod LastItems
pub mod Laws
pub mod NameBytes
pub mod PartLaws
pub mod PartOrder
pub mod RangeLaws
pub mod Sizes
mod StampOrder
pub mod TagLaws
