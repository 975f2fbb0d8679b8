pub mod Carried
pub mod Causes
pub mod Body
pub mod LedgerRow
pub mod Ledger
pub mod FarmWire
pub mod Kept
pub mod AsModel
