pub mod Calls
pub mod Dues
pub mod FirstRefused
pub mod LineRuns
pub mod ScriptRuns
