-- What the definitions of `specs/` imply, for the proofs of this crate and of those above it.
pub mod Soundness
pub mod Written
pub mod Lasting
pub mod Changes
pub mod Outside
pub mod Rule
pub mod OneAnswer
