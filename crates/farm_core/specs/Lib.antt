pub mod FarmParts
pub mod RequestLife
pub mod Agreement
pub mod Runs
pub mod AppendBeat
pub mod NewFarm
pub mod LendCache
