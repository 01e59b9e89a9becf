pub mod CallerLemmas
pub mod Digits
pub mod Prefix
pub mod Reading
pub mod Taking
