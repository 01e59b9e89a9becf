use Rattle.std.proofs.Common.{◌∙◌, ◌&&◌, ◌+◌, ◌≤◌, ◌<◌, List, ℕ, not, map, insert, slice_index, refl, sym, ap, subst}
use Rattle.std.specs.Simd.Lanes.{Each1}
use Rattle.pk_plan.specs.Order.{frequency_of, in_order}
use Rattle.pk_plan.specs.Plans.{operation_of, takes, word_at}
use Rattle.pk_plan.specs.Operands.{all_take, any_takes, phrases_take}
use Rattle.pk_plan.proofs.TakingLemmas.{and_assoc, takes_term}
use Rattle.pk_plan.proofs.OrderLemmas.{insert_above, insert_ordered}
use Rattle.pk_plan.proofs.RowLemmas.{and_left, and_right}
use Rattle.pk_plan.proofs.operands.Operands.put_term.Goals as goal

pub returns-clause-same : goal.returns-clause-same
returns-clause-same c asked words =
    let old = c.args.self.now in
    let word = takes (word_at asked c.args.place) words in
    let others = all_take asked words old.places.items old.parts.items in
    let left = not (any_takes asked words old.excluded.items) in
    let stand = phrases_take asked words old.phrases.items in
    ap (λ (ps : List ℕ). (all_take asked words ps old.parts.items && left) && stand) c.in_ok-insert.ensures.ok
    ∙ ap (λ b. (b && left) && stand) (takes_term (word_at asked) words c.args.place c.rank_of-before.result old.places.items (map (operation_of asked) old.parts.items))
    ∙ ap (λ b. b && stand) (and_assoc word others left) ∙ and_assoc word (others && left) stand

pub returns-clause-order : goal.returns-clause-order
returns-clause-order c =
    let places = c.args.self.now.places.items in
    let rank = c.rank_of-before.result in
    let is = c.as_slice.ensures in
    record {
      places = ap (in_order c.args.table.now) (c.in_ok-insert.ensures.ok ∙ ap (λ ps. insert ps rank c.args.place) (sym is))
          ∙ insert_ordered c.args.table.now c.as_slice.result.now rank c.args.place (ap (in_order c.args.table.now) is ∙ c.requires.order.places)
          c.rank_of-before.ensures.within
          (λ i l. subst (λ n. frequency_of c.args.table.now (slice_index c.as_slice.result.now i) < n) c.frequency_at.ensures (c.rank_of-before.ensures.below i l))
          (λ l. subst (λ n. n ≤ frequency_of c.args.table.now (slice_index c.as_slice.result.now rank)) c.frequency_at.ensures (c.rank_of-before.ensures.reaches l))
          (subst (λ (ps : List ℕ). Each1 (λ q. c.args.place + 1 ≤ q) ps) (sym is) c.requires.order.above);
      above = subst (λ (ps : List ℕ). Each1 (λ q. c.args.place ≤ q) ps) (sym c.in_ok-insert.ensures.ok) (insert_above places rank c.args.place c.requires.order.above);
      parts = c.requires.order.parts;
      excluded = c.requires.order.excluded;
    }

pub returns-clause-narrowed : goal.returns-clause-narrowed
returns-clause-narrowed c = record {
  parts = refl;
  excluded = refl;
  phrases = refl;
  takes = λ asked words is. and_right (takes (word_at asked c.args.place) words) _
      (sym (takes_term (word_at asked) words c.args.place c.rank_of-before.result c.args.self.now.places.items (map (operation_of asked) c.args.self.now.parts.items))
      ∙ ap (λ (ps : List ℕ). all_take asked words ps c.args.self.now.parts.items) (sym c.in_ok-insert.ensures.ok) ∙ is);
}

pub returns-clause-held : goal.returns-clause-held
returns-clause-held c asked words is = and_left (takes (word_at asked c.args.place) words) _
    (sym (takes_term (word_at asked) words c.args.place c.rank_of-before.result c.args.self.now.places.items (map (operation_of asked) c.args.self.now.parts.items))
    ∙ ap (λ (ps : List ℕ). all_take asked words ps c.args.self.now.parts.items) (sym c.in_ok-insert.ensures.ok) ∙ is)
