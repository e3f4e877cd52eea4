pub mod Alone
pub mod Bounds
pub mod Counted
pub mod Known
