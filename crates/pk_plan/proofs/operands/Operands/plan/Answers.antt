use Rattle.std.proofs.Common.{◌∙◌, ◌&&◌, ◌≡◌, ◌||◌, nat_lt, ℕ, true, List, length, not, rules, sym, ap, subst, arith}
use Rattle.std.specs.List.{list_any}
use Rattle.std.proofs.lemmas.Bool.{ltb-false}
use Rattle.pk_plan.specs.declared.operands.PhrasePlaces.{PhrasePlaces}
use Rattle.pk_plan.specs.Operands.{all_take, any_takes, phrases_take}
use Rattle.pk_plan.specs.Texts.{reads_texts}
use Rattle.pk_plan.proofs.TextLemmas.{none_left, none_right}
use Rattle.std.specs.Simd.Lanes.{Each1}
use Rattle.pk_plan.specs.Plans.{operation_of, takes}
use Rattle.pk_plan.specs.Rows.{HasEach, has_each, row_of}
use Rattle.pk_plan.proofs.RowLemmas.{and_left, each_so}
use Rattle.pk_plan.proofs.operands.Operands.plan.Goals as goal

pub returns-clause-same : goal.returns-clause-same
returns-clause-same c asked words =
    let o = c.args.self in
    let is : c.as_slice.result.now ≡ o.phrases.items = search rules in
    let left = not (any_takes asked words o.excluded.items) in
    c.in_ok-plan.ensures.same asked words
    ∙ ap (λ b. b && phrases_take asked words c.as_slice.result.now) (c.in_ok-left.ensures.same asked words ∙ ap (λ b. b && left) (c.intersected-all.ensures.same asked words))
    ∙ ap (λ (ps : List PhrasePlaces). (all_take asked words o.places.items o.parts.items && left) && phrases_take asked words ps) is

pub returns-clause-order : goal.returns-clause-order
returns-clause-order c table from o =
    c.in_ok-plan.ensures.order table ∙ c.in_ok-left.ensures.order table (c.intersected-all.ensures.order table o.places o.parts) o.excluded

pub returns-clause-texts : goal.returns-clause-texts
returns-clause-texts c none =
    let o = c.args.self in
    let is : c.as_slice.result.now ≡ o.phrases.items = search rules in
    let parts = list_any reads_texts o.parts.items in
    let excluded = list_any reads_texts o.excluded.items in
    let phrases = nat_lt 0 (length o.phrases.items) in
    let first = none_left (parts || excluded) phrases none in
    let few = ltb-false 0 (length o.phrases.items) (none_right (parts || excluded) phrases none) in
    let empty : length c.as_slice.result.now ≡ 0 = ap length is ∙ omega (arith, few) in
    c.in_ok-plan.ensures.texts empty
    ∙ c.in_ok-left.ensures.texts (c.intersected-all.ensures.texts (none_left parts excluded first)) (none_right parts excluded first)

pub returns-clause-rows : goal.returns-clause-rows
returns-clause-rows c asked rest =
    let o = c.args.self in
    let is : c.as_slice.result.now ≡ o.phrases.items = search rules in
    let left = c.in_ok-left.left in
    let beside : PhrasePlaces → Type 0 = λ p. (words : List (List ℕ)) → takes (operation_of asked left) words ≡ true
    → has_each (row_of asked p) words ≡ true in
    c.in_ok-plan.ensures.rows asked
    (c.in_ok-left.ensures.rows asked (c.intersected-all.ensures.rows asked rest.parts) rest.excluded)
    (subst (λ (ps : List PhrasePlaces). Each1 beside ps) (sym is)
    (each_so (λ (p : PhrasePlaces). HasEach asked o (row_of asked p)) beside o.phrases.items
    (λ p has words held. has words (sym (c.intersected-all.ensures.same asked words)
    ∙ and_left _ (not (any_takes asked words o.excluded.items)) (sym (c.in_ok-left.ensures.same asked words) ∙ held)))
    rest.phrases))
