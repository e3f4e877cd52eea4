pub mod Views
pub mod HistoryRule
pub mod Rule
pub mod Writers
