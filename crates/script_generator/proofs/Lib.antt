pub mod Stirs
