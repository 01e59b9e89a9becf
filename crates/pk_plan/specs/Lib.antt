pub mod Operands
pub mod Order
pub mod Plans
pub mod Rows
pub mod Texts
pub mod Words
