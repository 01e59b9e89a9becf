-- Lemmas, from single bits up to whole blocks.
pub mod BitLemmas
pub mod LaneLemmas
pub mod WordLemmas
pub mod UnpackingLemmas
pub mod PackingLemmas
pub mod DifferenceLemmas
pub mod WidthLemmas
pub mod OrderLemmas
pub mod SumLemmas
pub mod CallerLemmas
