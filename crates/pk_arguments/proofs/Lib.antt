-- The lemmas of the crate.
mod CommandLineFacts
mod CommandLineLemmas
