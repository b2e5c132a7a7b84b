pub mod Stands
pub mod WriteRead
pub mod OneAnswer
