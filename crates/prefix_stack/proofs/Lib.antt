mod Amounts
mod Answering
mod Candidates
pub mod Descending
mod Finding
mod Members
mod Watching
