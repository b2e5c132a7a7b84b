pub mod Run
pub mod Uses
pub mod Demand
pub mod Example
