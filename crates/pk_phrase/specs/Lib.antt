-- The definitions that the contracts cite.
pub mod Hits
pub mod Lent
pub mod Said
pub mod Spans
