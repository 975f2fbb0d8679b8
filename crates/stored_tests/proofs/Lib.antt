pub mod KeeperNext
pub mod Beside
