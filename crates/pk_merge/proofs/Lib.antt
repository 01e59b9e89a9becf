-- The lemma pages.
pub mod CountLemmas
pub mod FaultLemmas
pub mod GatherLemmas
pub mod GivenLemmas
pub mod InputLemmas
pub mod KeepLemmas
pub mod LiveLemmas
pub mod OpenLemmas
pub mod OutputLemmas
pub mod ReadLemmas
pub mod RiseLemmas
pub mod SpanLemmas
pub mod StreamLemmas
pub mod TextLemmas
pub mod WholeLemmas
