pub mod Faults
pub mod Results
pub mod Networks
pub mod Epochs
pub mod Audits
pub mod Runs
pub mod Refusals
pub mod Ends
