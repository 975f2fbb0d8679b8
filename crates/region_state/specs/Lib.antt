pub mod AsModel
pub mod RegionState
pub mod NewRegion
pub mod YoungCommits
pub mod ApplyEntries
pub mod SnapView
pub mod StoreView
pub mod WaitView
