pub mod Channel
pub mod Joining
