pub mod PositionRow
pub mod ChronologyStore
pub mod Calls
pub mod AsModel
