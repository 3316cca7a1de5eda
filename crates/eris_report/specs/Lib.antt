pub mod HistoryText
pub mod OrderText
pub mod ReplicaText
pub mod ReportText
