pub mod ClauseLaws
pub mod ClauseSteps
pub mod FieldLaws
pub mod HeaderLaws
pub mod HexLaws
pub mod HexSteps
pub mod KeyListLaws
pub mod KeySteps
pub mod LineLaws
pub mod NodeLaws
pub mod OpLaws
pub mod OpListLaws
pub mod PlanLaws
mod ScriptExamples
pub mod SpellingLaws
pub mod TableLaws
