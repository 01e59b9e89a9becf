-- The operations on sets, as rising lists, and the loops that carry them out.
pub mod Cursors
pub mod Gapless
pub mod Puts
pub mod Sets
