pub mod Calls
pub mod Wheel
pub mod Product
pub mod Spliced
pub mod Twice
