pub mod Outcomes
pub mod PendingValues
