pub mod Words
pub mod TextHeld
pub mod Pieces
pub mod Differences
pub mod Verdicts
pub mod Ranges
