pub mod Drafts
pub mod FullLines
pub mod ReportFields
pub mod ReportForms
pub mod ReportLines
pub mod ReportTexts
pub mod ReportWords
pub mod TextReading
