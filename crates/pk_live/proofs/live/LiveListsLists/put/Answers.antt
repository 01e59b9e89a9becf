-- The live numbers in the list are the word's answer, and rise.
use Rattle.std.proofs.Common.{◌≡◌, ◌∙◌, ap, sym, subst, ℕ, List, Result, Ok, Err}
use Rattle.std.specs.Prelude.{OnOk}
use Rattle.std.specs.List.Sorted.{IsStrictlyIncreasing}
use Rattle.std.proofs.lemmas.List.Kept.{IsStrictlyIncreasing-filter}
use Rattle.pk_match.proofs.PutsLemmas.{puts_as, puts_ok}
use Rattle.pk_plan.specs.Plans.{found, word_at}
use Rattle.pk_sets.specs.Sets.{has, intersection}
use Rattle.pk_live.proofs.live.LiveListsLists.put.Goals as goal

pub returns-clause-numbers : goal.returns-clause-numbers
returns-clause-numbers c = λ read words docs are.
    let list = c.list_at.result.now in
    puts_ok (λ _. Unit {0}) _ _ c.put_live.result
    (puts_as c.put_live.result _ _ _ (ap (λ ns. intersection ns list) are.numbers ∙ c.list_at.ensures.live docs are.keeps ∙ ap (λ (ws : List (List ℕ)). found (word_at ws c.args.place) docs) are.same) c.put_live.ensures)
    (λ fault. tt)

rises : {T E : Type 0} (result : Result T E) (live list out : List ℕ) → IsStrictlyIncreasing live → OnOk result (out ≡ intersection live list) → OnOk result (IsStrictlyIncreasing out)
rises (Ok v) live list out h e = subst IsStrictlyIncreasing (sym e) (IsStrictlyIncreasing-filter (has list) live h)
rises (Err f) live list out h e = tt

pub returns-clause-rising : goal.returns-clause-rising
returns-clause-rising c = rises c.put_live.result c.args.self.now.live.now c.list_at.result.now c.put_live.new.out.items c.args.self.now.rising c.put_live.ensures
