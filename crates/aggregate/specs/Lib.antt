pub mod Takens
pub mod Sweeps
