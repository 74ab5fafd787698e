pub mod EntryOrder
pub mod Entries
pub mod Lookup
pub mod Inner
