pub mod Changes
pub mod Distances
pub mod Epochs
pub mod Places
