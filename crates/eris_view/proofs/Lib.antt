-- Lemmas about the definitions of this crate.
pub mod Acks
pub mod NotedParts
pub mod Replicas
pub mod TallyLaws
