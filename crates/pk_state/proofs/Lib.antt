-- The lemma pages; those that callers cite are public.
pub mod CallerLemmas
pub mod DeadLemmas
pub mod KindLemmas
pub mod HoldsLemmas
pub mod IndexedLemmas
pub mod MemberLemmas
pub mod WholeLemmas
pub mod CommitLemmas
pub mod FollowsLemmas
pub mod MergeLemmas
mod OutcomeLemmas
pub mod SessionLemmas
pub mod StateLemmas
mod WorkLemmas
pub mod BesideLemmas
