pub mod Joined
pub mod Drained
pub mod Gathered
