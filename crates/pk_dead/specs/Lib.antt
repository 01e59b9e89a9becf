-- A rising list of numbers with one number more, and what a search in it answers.
pub mod Sets
pub mod Searching
