-- The lemma pages.
pub mod CallLemmas
pub mod ConfirmLemmas
pub mod SeenLemmas
pub mod FillLemmas
pub mod OrderLemmas
pub mod ShownLemmas
pub mod FoundLemmas
pub mod OpenLemmas
pub mod ShowsLemmas
pub mod LatestLemmas
pub mod AnotherLemmas
pub mod WriteLemmas
