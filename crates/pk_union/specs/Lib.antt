-- The definitions that the contracts cite.
pub mod Marks
pub mod Stack
pub mod Union
pub mod Uniting
