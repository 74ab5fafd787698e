pub mod Common
pub mod PushedTags
pub mod TagLists
pub mod Blocks
pub mod Searches
