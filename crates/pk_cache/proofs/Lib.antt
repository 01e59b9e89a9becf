pub mod CallerLemmas
pub mod KeptLemmas
pub mod PlaceLemmas
