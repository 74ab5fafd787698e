-- Codes of the views, which the model of a type that holds them and its `==` ask for. No contract says more by them.
pub mod Crate
pub mod Tree
pub mod Node
