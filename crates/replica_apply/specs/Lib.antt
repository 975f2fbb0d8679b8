pub mod Applied
pub mod Gather
pub mod Reached
pub mod Replica
pub mod Snapshot
