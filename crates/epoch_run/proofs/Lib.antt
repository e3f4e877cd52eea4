mod Bounds
mod Changing
mod Clearing
pub mod Gathering
pub mod Joined
mod Splitting
pub mod Tables
mod Using
