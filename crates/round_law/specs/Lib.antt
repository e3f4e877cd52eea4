pub mod RoundStates
pub mod OwnRounds
pub mod Outcome
