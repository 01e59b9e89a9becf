pub mod PrefixLemmas
pub mod FoundLemmas
pub mod OperationLemmas
pub mod OrderLemmas
pub mod RowLemmas
pub mod TakingLemmas
pub mod TextLemmas
pub mod WordLemmas
