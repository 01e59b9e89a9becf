-- The definitions that contracts of kept pages cite.
pub mod Beside
pub mod Missed
pub mod Pages
