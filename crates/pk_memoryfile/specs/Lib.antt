-- The definitions of a file's images.
pub mod Record
