pub mod Messages
pub mod Frames
pub mod Answers
pub mod Exchanged
pub mod Served
pub mod Lines
pub mod Headers
pub mod Inner
