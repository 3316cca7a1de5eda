pub mod ClosingFits
pub mod CountedRanges
pub mod EachItem
pub mod EpochFits
pub mod Fits
pub mod PlaceLaws
pub mod Told
