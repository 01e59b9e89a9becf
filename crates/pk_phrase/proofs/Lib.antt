-- The lemma pages.
mod InRowLemmas
mod SaidLemmas
