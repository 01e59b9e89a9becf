-- The definitions of what a store means.
pub mod Committed
pub mod Runs
pub mod Writing
pub mod Legal
pub mod Session
pub mod Holds
pub mod Kept
pub mod Merged
pub mod States
pub mod Follows
pub mod Beside
