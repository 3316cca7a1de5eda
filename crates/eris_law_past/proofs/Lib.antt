pub mod Parted
pub mod Ends
pub mod Beginnings
pub mod Fates
pub mod Standing
pub mod CutPasts
