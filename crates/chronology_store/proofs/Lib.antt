pub mod Lookups
pub mod Tellings
pub mod Greatest
pub mod ModelRows
