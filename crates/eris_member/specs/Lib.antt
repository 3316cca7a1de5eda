pub mod LateSends
pub mod MemberInputs
pub mod MemberValues
