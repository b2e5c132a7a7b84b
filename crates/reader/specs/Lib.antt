pub mod Reader
pub mod Run
