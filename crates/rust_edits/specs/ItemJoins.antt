-- Items in front of others, and behind them.
pub mod Joined
pub mod Open
pub mod Mended
pub mod Ends
