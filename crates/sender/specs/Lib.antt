pub mod State
pub mod Send
pub mod Whole
