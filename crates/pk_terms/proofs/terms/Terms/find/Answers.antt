-- By the table, which has no word where it has no slot.
use Rattle.std.proofs.Common.{◌≡◌, ◌∙◌, ℕ, List, Contains, ap₂, subst, slice_get, Some}
use Rattle.std.specs.Option.{MatchOption}
use Rattle.pk_terms.specs.Table.{words_in}
use Rattle.pk_terms.proofs.terms.Terms.find.Goals as goal

pub returns : goal.returns
returns c =
    let word = c.args.word.now in
    let P : List (List ℕ) → Type 0 = λ ws. MatchOption c.find_in.result (Contains ws word → ⊥) (λ place. slice_get ws place ≡ Some word) in
    subst P (ap₂ words_in c.deref.ensures.value c.as_str.ensures.value ∙ c.self.view_is) c.find_in.ensures
