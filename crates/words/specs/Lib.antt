pub mod Grammar
pub mod Names
pub mod Values
pub mod Options
pub mod Forms
pub mod Rules
pub mod Matches
