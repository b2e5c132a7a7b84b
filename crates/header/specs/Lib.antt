pub mod Header
pub mod Sequence
