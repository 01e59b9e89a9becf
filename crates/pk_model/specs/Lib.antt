pub mod Words
pub mod Tree
pub mod Collection
pub mod Steps
pub mod Views
pub mod Limits
pub mod Terms
