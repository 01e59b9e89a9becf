-- The lists of the words that begin so.
use Rattle.std.proofs.Common.{◌≡◌, ◌∙◌, ap, sym, List, ℕ}
use Rattle.pk_match.proofs.PutsLemmas.{puts_as, puts_ok}
use Rattle.pk_plan.specs.Plans.{WithPrefix, Nothing, Operation, prefix_at, found}
use Rattle.pk_live.proofs.live.LiveListsLists.put_prefix.Goals as goal

pub returns-in_default-clause-numbers : goal.returns-in_default-clause-numbers
returns-in_default-clause-numbers c = λ read words docs are.
    let none : prefix_at words c.args.place ≡ Nothing = ap (λ (ws : List (List ℕ)). prefix_at ws c.args.place) (sym are.same) ∙ c.in_default.ensures in
    c.clear.ensures.items ∙ sym (ap (λ (o : Operation). found o docs) none)

pub returns-clause-numbers : goal.returns-clause-numbers
returns-clause-numbers c = λ read words docs are.
    let asked : prefix_at words c.args.place ≡ WithPrefix c.in-Some.prefix.now = ap (λ (ws : List (List ℕ)). prefix_at ws c.args.place) (sym are.same) ∙ c.in-Some.ensures in
    puts_ok (λ _. Unit {0}) _ _ c.put_with_prefix.result
    (puts_as c.put_with_prefix.result _ _ _ (sym (ap (λ (o : Operation). found o docs) asked)) (c.put_with_prefix.ensures.numbers docs are.keeps are.numbers))
    (λ fault. tt)
