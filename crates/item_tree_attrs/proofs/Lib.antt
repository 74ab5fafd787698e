pub mod AttrsEq
pub mod CollectSteps
pub mod Cutting
pub mod Places
