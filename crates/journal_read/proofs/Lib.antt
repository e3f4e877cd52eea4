pub mod NumberTexts
pub mod WordTexts
pub mod Grouped
pub mod KeyTexts
pub mod NumberLists
