pub mod Visits
pub mod Opening
pub mod Refusals
pub mod Hosting
