-- What the definitions of `specs/` imply, for the proofs of this crate and of those above it.
pub mod Room
pub mod Taking
pub mod Laws
pub mod OneAnswer
