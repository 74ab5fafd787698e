pub mod Views
pub mod Feeds
pub mod ItemWalks
pub mod Marks
pub mod Turns
