-- The lemma pages.
pub mod FileLemmas
pub mod GrowthLemmas
pub mod ShutLemmas
pub mod StoreLemmas
pub mod WiderLemmas
