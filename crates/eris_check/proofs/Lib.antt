mod BodySteps
mod ConfigSteps
mod ItemSteps
mod ReplicaSteps
pub mod DraftLaws
pub mod FieldLaws
pub mod FullLineLaws
pub mod HistoryLineLaws
pub mod LineFieldLaws
pub mod LineLaws
pub mod LineReadLaws
pub mod MisfitLaws
pub mod OrderLineLaws
pub mod PlanOrderLaws
pub mod ReadingLaws
pub mod ReportCuts
pub mod VisibleLaws
pub mod WordLaws
