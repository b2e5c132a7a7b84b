pub mod Index
pub mod Grow
pub mod Find
pub mod Whole
