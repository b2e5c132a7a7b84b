pub mod Escaped
pub mod Writing
pub mod OneAnswer
