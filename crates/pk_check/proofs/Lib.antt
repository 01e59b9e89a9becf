-- The lemma pages.
pub mod BodyLemmas
pub mod CheckedLemmas
pub mod CompareLemmas
pub mod DeletedLemmas
pub mod EntryLemmas
pub mod ListLemmas
pub mod NumberLemmas
pub mod OnwardLemmas
pub mod TakeLemmas
pub mod WholeLemmas
