-- Codes of the views, which the model of a type that holds them asks for. No contract says more by them.
pub mod Parts
pub mod Attr
pub mod UseTree
pub mod Syntax
