pub mod Keys
pub mod Orders
pub mod Claimed
pub mod Puts
pub mod Others
