pub mod Meanings
pub mod ErrorList
