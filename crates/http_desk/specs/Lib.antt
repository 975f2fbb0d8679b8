pub mod Heads
pub mod Calls
pub mod Incoming
pub mod AsModel
