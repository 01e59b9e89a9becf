-- Lemmas of decimal digits.
pub mod DecimalLemmas
