pub mod Numbers
pub mod Terms
pub mod Answers
pub mod Entries
pub mod Drafts
pub mod Reading
