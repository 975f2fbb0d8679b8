pub mod Windows
pub mod Counts
pub mod Heads
pub mod HeadsInWindows
pub mod WindowLaws
