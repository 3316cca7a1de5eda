pub mod DropLaws
pub mod QuorumLaws
