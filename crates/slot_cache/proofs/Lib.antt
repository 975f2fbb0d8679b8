mod Rows
mod Begins
mod Puts
mod Purges
