pub mod Text
pub mod Decimal
pub mod Line
pub mod Trip
