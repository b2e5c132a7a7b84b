pub mod WriteRead
pub mod OneAnswer
