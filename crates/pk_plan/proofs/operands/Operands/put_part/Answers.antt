use Rattle.std.proofs.Common.{◌∙◌, ◌&&◌, List, not, map, refl, sym, ap}
use Rattle.pk_plan.specs.declared.plans.Plan.{Plan}
use Rattle.pk_plan.specs.Plans.{operation_of, takes, word_at}
use Rattle.pk_plan.specs.Operands.{all_take, any_takes, phrases_take}
use Rattle.pk_plan.proofs.TakingLemmas.{and_assoc, takes_more}
use Rattle.pk_plan.proofs.RowLemmas.{and_right, part_rest}
use Rattle.pk_plan.proofs.operands.Operands.put_part.Goals as goal

pub returns-clause-same : goal.returns-clause-same
returns-clause-same c asked words =
    let old = c.args.self.now in
    let part = takes (operation_of asked c.args.part) words in
    let others = all_take asked words old.places.items old.parts.items in
    let left = not (any_takes asked words old.excluded.items) in
    let stand = phrases_take asked words old.phrases.items in
    ap (λ (ps : List Plan). (all_take asked words old.places.items ps && left) && stand) c.in_ok-insert.ensures.items
    ∙ ap (λ b. (b && left) && stand) (takes_more words (operation_of asked c.args.part) (map (word_at asked) old.places.items) (map (operation_of asked) old.parts.items))
    ∙ ap (λ b. b && stand) (and_assoc part others left) ∙ and_assoc part (others && left) stand

pub returns-clause-rows : goal.returns-clause-rows
returns-clause-rows c asked rests rest =
    let old = c.args.self.now in
    let part = c.args.part in
    let items = c.in_ok-insert.ensures.items in
    part_rest asked old _ part items refl refl
    (λ words is. and_right (takes (operation_of asked part) words) _
    (sym (takes_more words (operation_of asked part) (map (word_at asked) old.places.items) (map (operation_of asked) old.parts.items))
    ∙ ap (λ (ps : List Plan). all_take asked words old.places.items ps) (sym items) ∙ is))
    rests rest
