-- The definitions that the contracts cite.
pub mod Checking
pub mod Deleted
pub mod Entries
pub mod Holding
pub mod Listing
pub mod Segment
pub mod Taking
