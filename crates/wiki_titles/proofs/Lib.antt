pub mod Characters
pub mod Words
pub mod Prefixes
pub mod Ends
pub mod Digits
pub mod Named
