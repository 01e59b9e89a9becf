pub mod FilterLemmas
pub mod WordLemmas
