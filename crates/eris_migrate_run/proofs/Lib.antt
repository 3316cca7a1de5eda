pub mod ByGrammar
pub mod Migrating
pub mod OutcomesAlike
