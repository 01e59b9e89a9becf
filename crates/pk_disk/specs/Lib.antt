-- The definitions that contracts of disks cite.
pub mod Disk
pub mod Since
pub mod Sizes
pub mod Memory
pub mod Crash
pub mod Units
pub mod Fault
pub mod Frames
