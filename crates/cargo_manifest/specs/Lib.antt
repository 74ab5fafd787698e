pub mod Dependencies
pub mod Features
pub mod Inner
pub mod Laws
pub mod Manifests
pub mod Readings
pub mod Roots
pub mod Views
