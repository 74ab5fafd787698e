pub mod Outlines
