pub mod DoublingLemmas
pub mod SeekingLemmas
