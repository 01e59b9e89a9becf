-- The definitions that the contracts cite.
pub mod Apart
pub mod Choosing
pub mod Counting
pub mod Endings
pub mod Gathering
pub mod Inputs
pub mod Keeping
pub mod Left
pub mod Lists
pub mod Merging
pub mod Planned
pub mod Output
pub mod Prepared
pub mod ReadAll
pub mod Said
pub mod Spans
pub mod Streaming
