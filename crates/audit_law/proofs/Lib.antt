pub mod Holding
pub mod WorkerLaw
pub mod PlaceLaw
pub mod AnswerLaw
pub mod LiveLaw
pub mod JournalLaw
pub mod Failing
