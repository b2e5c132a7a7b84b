-- Over many calls; of a wheel; at the end of a run; and the run in which a total is told that never was.
pub mod Telling
pub mod Falls
pub mod Hearing
pub mod Turns
pub mod Exact
pub mod Accepted
pub mod Bounds
pub mod Handed
pub mod Whole
pub mod Spliced
