pub mod Closing
pub mod Modules
pub mod Told
pub mod Walking
