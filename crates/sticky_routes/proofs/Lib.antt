pub mod Marks
pub mod Parts
pub mod Clients
pub mod Fields
pub mod RoundTrip
pub mod SetValues
