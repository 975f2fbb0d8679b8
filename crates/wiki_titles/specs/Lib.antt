pub mod Title
pub mod Token
pub mod Text
pub mod ClientId
pub mod Cleaning
pub mod Order
