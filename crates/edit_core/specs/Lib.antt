pub mod AsModel
pub mod Decided
pub mod Questions
pub mod EditState
pub mod BeginEdit
pub mod CommitEdit
