-- The lemma pages; those that callers cite are public.
mod BegunLemmas
pub mod CacheLemmas
pub mod EntryLemmas
pub mod FilterLemmas
pub mod FrequencyLemmas
pub mod ListLemmas
mod NothingLemmas
mod PrefixLemmas
pub mod RepeatLemmas
mod RisingLemmas
mod RowLemmas
mod SaidLemmas
