pub mod Fields
pub mod Receivers
pub mod Senders
pub mod Readers
pub mod Listeners
pub mod Fresh
pub mod Permits
