-- Words that private contracts alone cite.
pub mod Declared
pub mod Outlines
pub mod Rows
pub mod Steps
