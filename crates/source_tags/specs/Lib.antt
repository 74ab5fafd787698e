pub mod LineSearches
pub mod BlockItems
pub mod TagFields
pub mod Tags
pub mod Views
pub mod Inner
