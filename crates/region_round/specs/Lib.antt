pub mod AsModel
pub mod Alone
pub mod Views
pub mod Prepared
pub mod Jobs
pub mod Ahead
pub mod Rounds
