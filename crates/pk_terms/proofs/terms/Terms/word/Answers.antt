-- By the table.
use Rattle.std.proofs.Common.{All, List, ℕ, sym, subst}
use Rattle.pk_terms.specs.declared.terms.Entry.{Entry}
use Rattle.pk_terms.specs.Table.{IsPart}
use Rattle.pk_terms.proofs.terms.Terms.word.Goals as goal

pub word_of-requires-clause-parts : goal.word_of-requires-clause-parts
word_of-requires-clause-parts c =
    let P : List Entry → List ℕ → Type 0 = λ es bytes. All (IsPart bytes) es in
    subst (λ es. P es c.as_str.result.now) (sym c.deref.ensures.value)
    (subst (P c.self.inside.entries.items) (sym c.as_str.ensures.value) c.self.invariant.parts)
