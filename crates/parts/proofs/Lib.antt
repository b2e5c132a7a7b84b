pub mod Listens
pub mod OneAnswer
