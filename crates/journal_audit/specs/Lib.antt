pub mod Past
pub mod Verdicts
