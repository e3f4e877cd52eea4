pub mod Tests
pub mod Firsts
pub mod LineNumbers
pub mod Forms
pub mod WorkerTests
pub mod AnswerTests
pub mod LiveTests
pub mod Judged
