pub mod Answers
pub mod Counts
pub mod Looks
pub mod Parts
pub mod Residues
pub mod Rounds
pub mod Settles
