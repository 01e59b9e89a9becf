-- The lemma pages.
pub mod Front
pub mod LengthLemmas
pub mod Steps
