-- The definitions of the crate.
pub mod Added
pub mod CommandLine
pub mod Described
pub mod Sizes
pub mod Unasked
