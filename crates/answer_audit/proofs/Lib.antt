pub mod Judging
pub mod Placed
pub mod Reaching
pub mod Beginning
pub mod Ordered
