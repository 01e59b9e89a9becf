-- The lemma pages; those that callers cite are public.
mod JoinLemmas
mod MarkLemmas
pub mod PlaceLemmas
mod StackLemmas
pub mod UnionLemmas
