pub mod AsModel
pub mod Value
