pub mod Answering
pub mod BegunLaws
pub mod ClientCounts
pub mod Completeness
pub mod EventRuns
pub mod FirstRefusals
pub mod LineRuns
pub mod ScriptLaws
