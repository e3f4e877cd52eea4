pub mod Standing
pub mod CounterSteps
pub mod Joining
