pub mod Table
pub mod Run
pub mod Demand
pub mod Follows
pub mod Rules
pub mod Wrong
pub mod Refuted
