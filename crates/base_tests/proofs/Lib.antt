pub mod KeeperNext
