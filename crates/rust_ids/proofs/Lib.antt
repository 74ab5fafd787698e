pub mod CountsBelow
pub mod Blocks
pub mod Consequences
pub mod Order
pub mod Steps
pub mod Common
