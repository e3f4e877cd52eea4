pub mod Reached
pub mod Answered
pub mod Risen
