pub mod Reply
pub mod AsModel
