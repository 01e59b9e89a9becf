-- The definitions that contracts of free units cite.
pub mod Free
pub mod Runs
pub mod Space
pub mod Places
