pub mod Permit
pub mod Send
pub mod Claims
pub mod Table
