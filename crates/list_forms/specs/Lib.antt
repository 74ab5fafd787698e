pub mod Colors
pub mod Lines
