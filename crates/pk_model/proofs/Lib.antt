-- The lemma pages.
pub mod CollectionLemmas
pub mod TermLemmas
pub mod TreeLemmas
