pub mod Disks
pub mod DiskLaws
pub mod DiskValues
pub mod Histories
