pub mod Acts
pub mod Allowed
pub mod ClientRows
pub mod MemberRows
pub mod ReplicaRows
