-- The definitions that contracts of readers cite.
pub mod Asking
pub mod Faults
pub mod Reading
pub mod Held
pub mod Replies
pub mod Without
pub mod Refused
pub mod Outdated
pub mod Unopened
pub mod Causes
