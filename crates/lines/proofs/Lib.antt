pub mod Numbers
pub mod Texts
pub mod Room
pub mod Longest
pub mod OneAnswer
