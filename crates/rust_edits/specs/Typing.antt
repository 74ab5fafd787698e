-- What typing inside a body changes, in any text: the laws, and what they ask.
pub mod Laws
pub mod Moved
pub mod Opened
pub mod Problems
pub mod Loose
