pub mod Marks
pub mod Mended
pub mod Texts
pub mod Apart
pub mod Steps
