pub mod Lines
pub mod ReportText
pub mod Runs
pub mod Content
pub mod JournalText
pub mod Readable
