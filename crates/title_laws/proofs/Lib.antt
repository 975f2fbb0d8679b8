pub mod Gaps
pub mod Classes
pub mod GoodBytes
pub mod ReadBack
pub mod Escapes
pub mod Locations
pub mod Characters
pub mod Requests
mod Examples
