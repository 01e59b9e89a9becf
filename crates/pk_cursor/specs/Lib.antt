pub mod Seeking
pub mod Standing
