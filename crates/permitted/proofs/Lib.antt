-- What permits allow in a run; the plain run is the same; demand 3.
pub mod Uses
pub mod Again
pub mod Same
pub mod Kept
pub mod Example
