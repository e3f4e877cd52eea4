pub mod Owners
pub mod Positions
