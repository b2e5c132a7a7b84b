pub mod Tests
pub mod Lists
pub mod Four
pub mod PartCopy
pub mod TwoPastes
pub mod Maps
pub mod Fills
pub mod Pastes
