pub mod Causes
pub mod Bounds
pub mod Keeper
pub mod MemKeeper
pub mod Indexes
