pub mod Counting
pub mod Tested
