pub mod Bytes
pub mod EqualKeys
mod Lengths
pub mod OneText
pub mod Ordered
mod Sockets
mod Splits
mod Tags
