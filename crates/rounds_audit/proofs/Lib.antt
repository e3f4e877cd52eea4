pub mod OneContent
pub mod Differing
pub mod Judging
