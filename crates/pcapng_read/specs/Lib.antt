pub mod Blocks
pub mod Plans
pub mod Capture
pub mod View
pub mod Inside
pub mod Takes
