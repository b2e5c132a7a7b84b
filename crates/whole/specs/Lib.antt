pub mod Tallies
pub mod Streams
