mod Rising
mod Follows
mod Rows
mod Small
pub mod Failing
