pub mod PlaceLaws
pub mod FetchedLaws
pub mod KeptLaws
pub mod NextLaws
pub mod LegalLaws
