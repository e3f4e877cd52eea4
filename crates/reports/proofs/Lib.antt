pub mod Adding
mod OfAll
mod OneOrder
pub mod OneReport
