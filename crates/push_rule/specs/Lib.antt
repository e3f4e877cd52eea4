pub mod Stands
pub mod Counters
pub mod Keeps
pub mod Residues
