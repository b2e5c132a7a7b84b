-- P1 to P12; demand 3, from a transfer to a run; what follows from it; and what is refuted.
pub mod Tabled
pub mod Ruled
pub mod Ledger
pub mod Places
pub mod Sending
pub mod Joining
pub mod Receiving
pub mod Flow
pub mod Left
pub mod Steps
pub mod Cargoes
pub mod Kept
pub mod Follows
pub mod Refute
pub mod Refuted
pub mod Bound
pub mod Unasked
