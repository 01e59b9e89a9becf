-- The definitions that the contracts cite.
pub mod Growth
pub mod GrownFile
pub mod Shutting
