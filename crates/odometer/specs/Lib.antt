pub mod Odometer
pub mod Total
