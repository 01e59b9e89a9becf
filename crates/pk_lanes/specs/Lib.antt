-- What a packed block is, what its differences are, and how far a kernel has come.
pub mod Packed
pub mod Differences
pub mod Progress
