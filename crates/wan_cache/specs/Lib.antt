pub mod Rules
pub mod CacheRow
pub mod RecentUses
pub mod MapCache
pub mod RowTable
pub mod AsModel
