pub mod AsModel
pub mod Feed
pub mod Wanted
