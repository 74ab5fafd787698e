pub mod Escapes
pub mod Strings
pub mod Literals
pub mod Conditions
pub mod Metas
pub mod Attributes
pub mod Docs
pub mod Unread
