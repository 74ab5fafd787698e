pub mod Inner
pub mod Laws
pub mod Modules
pub mod Paths
pub mod Views
