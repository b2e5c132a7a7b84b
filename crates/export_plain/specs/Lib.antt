pub mod Headers
pub mod Entries
pub mod ErrorLists
pub mod Answers
pub mod Steps
pub mod Odometers
