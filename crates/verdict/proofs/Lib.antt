-- What the definitions of `specs/` imply, for the proofs of this crate and of those above it.
pub mod Checked
pub mod OneAnswer
