pub mod Lengths
pub mod Greatest
pub mod Stamps
pub mod Decided
pub mod There
