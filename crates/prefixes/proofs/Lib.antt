mod Lengths
pub mod Texts
