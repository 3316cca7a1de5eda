pub mod LiveJournals
pub mod LiveLists
