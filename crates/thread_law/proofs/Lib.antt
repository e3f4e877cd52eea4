pub mod Told
pub mod Fitting
pub mod Sequentials
pub mod Threads
pub mod Wholes
pub mod Nears
