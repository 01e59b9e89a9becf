-- Rising lists, by their members.
pub mod SetLemmas
pub mod PostingLemmas
pub mod SearchLemmas
