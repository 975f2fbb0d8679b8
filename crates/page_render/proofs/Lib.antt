pub mod Frames
pub mod Fuel
pub mod Labels
pub mod Lookups
pub mod Picks
pub mod Runs
pub mod Sorting
pub mod Steps
