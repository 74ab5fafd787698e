pub mod Depths
pub mod Requests
pub mod EditLists
pub mod Texts
pub mod Common
