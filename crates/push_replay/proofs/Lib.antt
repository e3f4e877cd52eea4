pub mod Replayed
pub mod Watched
pub mod Rows
