-- The lemmas of the crate.
pub mod LiveLemmas
pub mod PrefixLemmas
pub mod InRowLemmas
