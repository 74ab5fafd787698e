-- Words that private contracts alone cite.
pub mod RequestView
pub mod Made
pub mod ImportsByIds
