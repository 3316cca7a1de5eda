pub mod Cuts
pub mod Decimal
pub mod Forms
pub mod OpText
pub mod PlanText
pub mod Reasons
pub mod Words
