pub mod InTurn
pub mod OneAnswer
