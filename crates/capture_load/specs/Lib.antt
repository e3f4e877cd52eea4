pub mod Generated
pub mod Sources
pub mod Packets
pub mod Capture
pub mod Loads
pub mod Notes
