-- The definitions that the contracts cite.
pub mod Opened
pub mod Opening
pub mod Seeking
pub mod Showing
