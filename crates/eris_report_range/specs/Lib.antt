pub mod ReportRanges
