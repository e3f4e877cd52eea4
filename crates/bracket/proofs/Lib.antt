pub mod Bracket
pub mod Bracketed
pub mod Counted
pub mod Plain
