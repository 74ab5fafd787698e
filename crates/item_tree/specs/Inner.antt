-- Words that private contracts alone cite.
pub mod Statements
pub mod Meeting
pub mod Growth
pub mod Expanding
pub mod PageByIds
