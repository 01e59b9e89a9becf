-- The lemma pages.
pub mod CallerLemmas
pub mod GapLemmas
mod JoinLemmas
pub mod PlaceLemmas
pub mod Placing
