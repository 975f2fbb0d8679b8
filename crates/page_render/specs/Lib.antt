pub mod AsModel
pub mod Blocks
pub mod Draft
pub mod Link
pub mod Templates
pub mod Use
