pub mod Fold
pub mod Shows
pub mod Tallies
pub mod Copies
