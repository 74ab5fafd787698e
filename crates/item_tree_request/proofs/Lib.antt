pub mod ImportLists
pub mod EditOutcomes
pub mod Outputs
pub mod ServedRequests
pub mod Common
pub mod Writing
