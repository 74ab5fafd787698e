pub mod Inner
pub mod Points
pub mod Positions
pub mod Starts
