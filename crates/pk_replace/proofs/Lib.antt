-- The lemma pages.
pub mod WritingLemmas
pub mod ClaimLemmas
pub mod CopyLemmas
pub mod CourseLemmas
pub mod HeldLemmas
pub mod EvolvingLemmas
