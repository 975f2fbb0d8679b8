pub mod ClosingPlaces
pub mod Line
pub mod Mark
pub mod Names
pub mod OneLine
pub mod Runs
pub mod Tree
