pub mod Edits
pub mod Inner
pub mod Typing
pub mod ItemJoins
