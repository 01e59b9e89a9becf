-- Lemmas on rising lists, from single numbers up to what callers cite.
pub mod IntersectionLemmas
pub mod PartLemmas
pub mod LaneLemmas
pub mod UnionLemmas
pub mod ExclusionLemmas
pub mod CallerLemmas
pub mod HitLemmas
pub mod CursorLemmas
pub mod GaplessLemmas
