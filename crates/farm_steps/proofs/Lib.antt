pub mod Rooms
pub mod Twice
pub mod Pending
