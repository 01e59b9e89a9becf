pub mod Bits
pub mod Filter
pub mod Hashed
pub mod Words
