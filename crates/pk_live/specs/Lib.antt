-- The definitions of the crate.
pub mod Live
pub mod InRow
