pub mod Lists
pub mod Layouts
mod Kept
pub mod Live
mod Copied
