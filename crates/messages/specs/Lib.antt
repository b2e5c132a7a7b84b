pub mod Messages
pub mod Tells
pub mod Open
pub mod Sent
pub mod Before
pub mod Damage
