-- The lemma pages.
pub mod OrderLemmas
pub mod ShownLemmas
pub mod ReadLemmas
pub mod RefusedLemmas
pub mod CauseLemmas
pub mod TryLemmas
