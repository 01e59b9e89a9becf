-- The definitions of the crate.
pub mod Limits
pub mod Tokens
pub mod Grammar
pub mod Depth
pub mod Refusals
pub mod Machine
pub mod Check
pub mod LexerView
pub mod BuildView
pub mod CheckView
