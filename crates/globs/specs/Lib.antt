pub mod Globs
pub mod Inner
