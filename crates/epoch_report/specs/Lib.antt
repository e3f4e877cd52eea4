pub mod Reports
pub mod EpochsText
