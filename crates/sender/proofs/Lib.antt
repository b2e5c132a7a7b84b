-- What the definitions of `specs/` imply, for the proofs of this crate and of those above it.
pub mod Ready
pub mod Closing
pub mod Coming
pub mod Transfer
pub mod Whole
pub mod Lasting
pub mod OneAnswer
