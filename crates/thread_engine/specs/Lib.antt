pub mod Ended
pub mod Left
pub mod Readers
pub mod Tellings
