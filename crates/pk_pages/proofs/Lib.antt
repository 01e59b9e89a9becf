-- The lemma pages.
pub mod MissLemmas
pub mod PageLemmas
pub mod ReadLemmas
