-- The definitions that contracts of shared files and of snapshots cite.
pub mod Shared
pub mod Counted
pub mod Seen
pub mod Shown
pub mod Found
pub mod Order
pub mod Latest
pub mod Changed
pub mod Another
pub mod Writes
