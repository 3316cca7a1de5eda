pub mod Examples
pub mod PhaseLaws
