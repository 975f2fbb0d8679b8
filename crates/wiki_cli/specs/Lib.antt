pub mod Command
pub mod Ends
pub mod RunFarm
pub mod Commands
pub mod Serving
