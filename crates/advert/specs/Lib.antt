pub mod Tags
pub mod Entry
pub mod Walk
