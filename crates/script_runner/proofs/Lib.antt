pub mod Lines
pub mod Running
pub mod Reported
pub mod Allowed
pub mod Ready
pub mod UnderWay
pub mod Loops
pub mod Opened
