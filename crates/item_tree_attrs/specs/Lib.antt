pub mod Collected
pub mod Inner
pub mod Key
pub mod Query
pub mod Code
