pub mod Testing
pub mod Alone
pub mod Sequence
pub mod Going
