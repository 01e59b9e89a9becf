-- Those in whose texts the words stand.
use Rattle.std.proofs.Common.{◌≡◌, ◌∙◌, ap, sym, subst, List, ℕ, Bool, Result, Ok, Err, map}
use Rattle.std.specs.Prelude.{OnOk}
use Rattle.std.specs.List.{filter}
use Rattle.std.specs.List.Sorted.{IsStrictlyIncreasing}
use Rattle.std.proofs.lemmas.List.Kept.{IsStrictlyIncreasing-filter}
use Rattle.pk_match.proofs.PutsLemmas.{puts_as, puts_ok}
use Rattle.pk_model.specs.Views.{doc_of}
use Rattle.pk_plan.specs.Plans.{Both, InRow, Nothing, Operation, found, row_at}
use Rattle.pk_plan.specs.Words.{texts}
use Rattle.pk_sets.proofs.IntersectionLemmas.{intersection_none}
use Rattle.pk_live.proofs.InRowLemmas.{kept_is}
use Rattle.pk_live.proofs.live.LiveListsLists.keep_row.Goals as goal

pub returns-in_default-clause-numbers : goal.returns-in_default-clause-numbers
returns-in_default-clause-numbers c = λ words docs are o is.
    let none : row_at words c.args.first c.args.count ≡ Nothing = ap (λ (ws : List (List ℕ)). row_at ws c.args.first c.args.count) (sym are.same) ∙ c.in_default.ensures in
    c.clear.ensures.items ∙ sym (ap (λ (x : Operation). found (Both o x) docs) none ∙ intersection_none (found o docs))

pub returns-clause-numbers : goal.returns-clause-numbers
returns-clause-numbers c = λ words docs are o is.
    let row = texts c.in-Some.row.now in
    let asked : row_at words c.args.first c.args.count ≡ InRow row = ap (λ (ws : List (List ℕ)). row_at ws c.args.first c.args.count) (sym are.same) ∙ c.in-Some.ensures in
    puts_ok (λ _. Unit {0}) _ _ c.keep_in_row.result
    (puts_as c.keep_in_row.result _ _ _ (kept_is row c.args.self.now.live.now (map doc_of c.args.self.now.documents.now) docs o c.args.numbers.now.items are.rising are.numbers are.documents is ∙ sym (ap (λ (x : Operation). found (Both o x) docs) asked)) c.keep_in_row.ensures)
    (λ fault. tt)

rises : {T E : Type 0} (result : Result T E) (ns out : List ℕ) (p : ℕ → Bool) → IsStrictlyIncreasing ns → OnOk result (out ≡ filter p ns) → OnOk result (IsStrictlyIncreasing out)
rises (Ok v) ns out p h e = subst IsStrictlyIncreasing (sym e) (IsStrictlyIncreasing-filter p ns h)
rises (Err f) ns out p h e = tt

pub returns-clause-rising : goal.returns-clause-rising
returns-clause-rising c = rises c.keep_in_row.result c.args.numbers.now.items c.keep_in_row.new.numbers.items _ c.requires c.keep_in_row.ensures
