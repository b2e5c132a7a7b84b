pub mod Channels
pub mod RowsStored
pub mod Carried
pub mod OneAnswer
