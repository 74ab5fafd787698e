-- The request that is written.
pub mod Asked
pub mod Depths
pub mod Faults
pub mod MeantRequests
pub mod RequestData
