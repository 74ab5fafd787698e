pub mod Names
pub mod Meaning
pub mod Inner
pub mod Paths
pub mod UseTrees
pub mod Views
pub mod Visibilities
