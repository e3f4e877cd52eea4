pub mod Readers
pub mod Rest
pub mod Workers
