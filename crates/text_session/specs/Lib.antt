pub mod Edits
pub mod Texts
pub mod SourceTexts
pub mod Sessions
pub mod Refusals
pub mod Touched
pub mod Inner
pub mod Inside
