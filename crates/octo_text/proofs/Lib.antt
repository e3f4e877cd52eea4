pub mod NumberLemmas
pub mod RunLemmas
pub mod WorkerLemmas
pub mod OptionLemmas
pub mod MaximalRuns
