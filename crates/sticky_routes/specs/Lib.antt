pub mod AsModel
pub mod PosCookie
pub mod Escapes
pub mod SetCookies
pub mod Cookies
