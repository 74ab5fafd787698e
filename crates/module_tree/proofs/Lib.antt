pub mod BorrowedNames
pub mod Growing
pub mod Limits
pub mod ModItems
pub mod Wanting
