-- The lemma pages; callers cite all of them.
pub mod EntryLemmas
pub mod LookUpLemmas
pub mod PlaceLemmas
