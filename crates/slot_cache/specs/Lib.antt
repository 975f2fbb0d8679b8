pub mod Slots
pub mod SlotRow
pub mod SlotCache
pub mod AsModel
