pub mod Heads
pub mod Blocks
pub mod Once
pub mod Kept
pub mod Steps
pub mod Exact
pub mod Views
pub mod Ends
