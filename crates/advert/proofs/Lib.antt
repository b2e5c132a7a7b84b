pub mod Table
pub mod Inside
pub mod Steps
pub mod OneAnswer
