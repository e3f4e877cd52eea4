pub mod Reports
pub mod PrefixText
