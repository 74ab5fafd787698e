-- Words that private contracts alone cite.
pub mod Source
pub mod Settled
pub mod Shelf
pub mod Recent
pub mod Sizes
pub mod Walk
pub mod Table
pub mod Codes
