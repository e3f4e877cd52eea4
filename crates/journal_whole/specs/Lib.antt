pub mod Drafted
pub mod Steps
pub mod Taken
