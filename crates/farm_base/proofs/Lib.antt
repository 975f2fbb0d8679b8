pub mod Pieces
pub mod Chains
pub mod Places
pub mod Digits
pub mod Doors
