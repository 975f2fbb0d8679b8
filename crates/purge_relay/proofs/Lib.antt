pub mod Changes
pub mod Takes
pub mod Kept
pub mod SameBody
