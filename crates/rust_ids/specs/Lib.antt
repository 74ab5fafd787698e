pub mod Hash
pub mod Row
pub mod Ids
pub mod Inner
