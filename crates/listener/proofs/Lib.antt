pub mod Transfers
pub mod HearListen
pub mod OneAnswer
