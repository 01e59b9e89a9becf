-- The plans of the parts of a query make its plan.
use Rattle.std.proofs.Common.{rules, arith, ◌≡◌, ◌∙◌, ◌+◌, length-append, ◌&&◌, ◌||◌, ◌≤◌, ◌-◌, false, List, length, map, not, ap, subst, sym, string_bytes}
use Rattle.std.proofs.lemmas.Grind.{common_steps}
use Rattle.pk_model.specs.declared.queries.Query.TheViews.{sized-And, sized-Or}
use Rattle.pk_model.specs.Tree.{And, Or, Not, Phrase, Prefix, Tree, tree_of}
use Rattle.pk_plan.specs.declared.plans.Plan.{Plan}
use Rattle.pk_plan.specs.Operands.{any_takes, operands_take, query_takes}
use Rattle.pk_plan.specs.Order.{Standing, all_ordered}
use Rattle.pk_plan.specs.Plans.{takes}
use Rattle.pk_plan.proofs.OperationLemmas.{of_prefix, prefix_standing}
use Rattle.pk_plan.proofs.OrderLemmas.{still_in_order}
use Rattle.pk_plan.proofs.TakingLemmas.{and_assoc, and_true, or_assoc, or_false}
use Rattle.std.specs.List.{list_any}
use Rattle.pk_plan.specs.Texts.{has_phrase, reads_texts}
use Rattle.pk_plan.proofs.TextLemmas.{none_left, none_right, prefix_reads}
use Rattle.pk_plan.specs.Rows.{AllRest, RestsOnWords, StandAt}
use Rattle.pk_plan.specs.Words.{leaves}
use Rattle.pk_plan.proofs.OperationLemmas.{of_term}
use Rattle.pk_plan.proofs.RowLemmas.{prefix_rests, gathers_on, joins_on, narrowed_rest, stand_left, stand_right, word_rests}
use Rattle.pk_plan.proofs.planning.+planning.Goals as goal

pub conjunction-gather-requires : goal.conjunction-gather-requires
conjunction-gather-requires t c = (search rules, (c.requires, c.new-operands.ensures.order c.args.table.now c.args.place.now))

pub conjunction-returns-clause-plan : goal.conjunction-returns-clause-plan
conjunction-returns-clause-plan t c = record {
  same = λ asked words. (
      let takes = query_takes asked words c.gather.new.place (tree_of c.args.query.now) in
      c.in_ok-plan.ensures.same asked words ∙ c.in_ok-gather.ensures.operands.same asked words
      ∙ ap (λ b. takes && b) (c.new-operands.ensures.all asked words) ∙ and_true takes);
  ordered = c.in_ok-plan.ensures.order c.args.table.now c.gather.new.place (c.in_ok-gather.ensures.operands.ordered (c.new-operands.ensures.order c.args.table.now c.args.place.now));
  texts = λ none. c.in_ok-plan.ensures.texts (c.in_ok-gather.ensures.operands.texts none c.new-operands.ensures.texts);
}

pub plan_of-returns-clause-plan : goal.plan_of-returns-clause-plan
plan_of-returns-clause-plan t c = record {
  same = λ asked words. (
      let takes = query_takes asked words c.join.new.place (tree_of c.args.query.now) in
      c.united.ensures.same asked words ∙ c.in_ok-join.ensures.plans.same asked words
      ∙ ap (λ (ps : List Plan). takes || any_takes asked words ps) c.new-plans.ensures.items ∙ or_false takes);
  ordered = c.united.ensures.order c.args.table.now (c.in_ok-join.ensures.plans.ordered (ap (all_ordered c.args.table.now) c.new-plans.ensures.items));
  texts = λ none. c.united.ensures.texts (c.in_ok-join.ensures.plans.texts none (ap (list_any reads_texts) c.new-plans.ensures.items));
}

pub put-returns-in_ok-rule_out-in-Not-clause-operands : goal.put-returns-in_ok-rule_out-in-Not-clause-operands
put-returns-in_ok-rule_out-in-Not-clause-operands t c =
    let place = c.plan_of.new.place in
    let tree : tree_of c.args.query.now ≡ Not (tree_of c.deref-in-Not.result.now) = search rules in
    let plan = c.in_ok-plan-in-Not.ensures.plan in
    let falls : place ≤ c.args.place.now = omega (arith, c.in_ok-plan-in-Not.ensures.passed) in
    record {
      same = λ asked words. (c.in_ok-rule_out-in-Not.ensures.same asked words
          ∙ ap (λ b. not b && operands_take asked words c.args.operands.now) (plan.same asked words)
          ∙ ap (λ q. query_takes asked words place q && operands_take asked words c.args.operands.now) (sym tree));
      ordered = λ o. c.in_ok-rule_out-in-Not.ensures.order c.args.table.now place plan.ordered (still_in_order c.args.table.now c.args.place.now place c.args.operands.now falls o);
      texts = λ none. c.in_ok-rule_out-in-Not.ensures.texts (plan.texts (sym (ap has_phrase tree) ∙ none));
    }

pub put-returns-in_ok-put_part-in-Or-clause-operands : goal.put-returns-in_ok-put_part-in-Or-clause-operands
put-returns-in_ok-put_part-in-Or-clause-operands t c =
    let table = c.args.table.now in
    let place = c.join-in-Or.new.place in
    let left = tree_of c.deref-in-Or-2.result.now in
    let right = tree_of c.deref-in-Or.result.now in
    let tree : tree_of c.args.query.now ≡ Or left right = search rules in
    let last = c.in_ok-join-in-Or.ensures in
    let first = c.in_ok-join-in-Or-2.ensures in
    let falls : place ≤ c.args.place.now = omega (arith, last.passed, first.passed) in
    let none = c.new-plans.ensures.items in
    record {
      same = λ asked words. (
          let takes = query_takes asked words place left in
          c.in_ok-put_part-in-Or.ensures.same asked words
          ∙ ap (λ b. b && operands_take asked words c.args.operands.now) (
          c.united.ensures.same asked words ∙ first.plans.same asked words
          ∙ ap (λ b. takes || b) (last.plans.same asked words ∙ ap (λ (ps : List Plan). query_takes asked words c.join.new.place right || any_takes asked words ps) none ∙ or_false (query_takes asked words c.join.new.place right))
          ∙ ap (λ n. takes || query_takes asked words n right) (sym first.passed)
          ∙ ap (λ q. query_takes asked words place q) (sym tree)));
      ordered = λ o. c.in_ok-put_part-in-Or.ensures.order table place
          (c.united.ensures.order table (first.plans.ordered (last.plans.ordered (ap (all_ordered table) none))))
          (c.united.ensures.union table (omega (arith, last.plans.more, first.plans.more)))
          (still_in_order table c.args.place.now place c.args.operands.now falls o);
      texts = λ clear. (
          let both : (has_phrase left || has_phrase right) ≡ false = sym (ap has_phrase tree) ∙ clear in
          c.in_ok-put_part-in-Or.ensures.texts (c.united.ensures.texts
          (first.plans.texts (none_left (has_phrase left) (has_phrase right) both)
          (last.plans.texts (none_right (has_phrase left) (has_phrase right) both) (ap (list_any reads_texts) none)))));
    }

pub put-returns-in_ok-put_part-in-Prefix-clause-operands : goal.put-returns-in_ok-put_part-in-Prefix-clause-operands
put-returns-in_ok-put_part-in-Prefix-clause-operands t c =
    let table = c.args.table.now in
    let place = c.args.place.now - 1 in
    let tree : tree_of c.args.query.now ≡ Prefix (string_bytes c.in-Prefix.field-0) = search rules in
    record {
      same = λ asked words. (c.in_ok-put_part-in-Prefix.ensures.same asked words
          ∙ ap (λ b. b && operands_take asked words c.args.operands.now) (ap (λ o. takes o words) (of_prefix asked place) ∙ ap (λ q. query_takes asked words place q) (sym tree)));
      ordered = λ o. c.in_ok-put_part-in-Prefix.ensures.order table place
          (ap (λ (s : Standing). s.ordered) (prefix_standing table place)) (ap (λ (s : Standing). s.union) (prefix_standing table place))
          (still_in_order table c.args.place.now place c.args.operands.now (omega arith) o);
      texts = λ clear. c.in_ok-put_part-in-Prefix.ensures.texts (prefix_reads place);
    }

-- ---- each row rests on its words

pub conjunction-returns-clause-rows : goal.conjunction-returns-clause-rows
conjunction-returns-clause-rows t c asked stand =
    c.in_ok-plan.ensures.rows asked (c.in_ok-gather.ensures.rows.rest asked stand (c.new-operands.ensures.rows asked))

pub plan_of-returns-in-Term-clause-rows : goal.plan_of-returns-in-Term-clause-rows
plan_of-returns-in-Term-clause-rows t c asked stand =
    subst RestsOnWords (sym (of_term asked (c.args.place.now - 1))) (word_rests asked (c.args.place.now - 1))

pub plan_of-returns-clause-rows : goal.plan_of-returns-clause-rows
plan_of-returns-clause-rows t c asked stand =
    c.united.ensures.rows asked (c.in_ok-join.ensures.rows.rest asked stand (subst (AllRest asked) (sym c.new-plans.ensures.items) tt))

pub put-returns-in_ok-put_term-in-Term-clause-rows : goal.put-returns-in_ok-put_term-in-Term-clause-rows
put-returns-in_ok-put_term-in-Term-clause-rows t c = record {
  rest = λ asked stand.
      narrowed_rest asked c.args.operands.now _ c.in_ok-put_term-in-Term.ensures.narrowed;
}

pub put-returns-in_ok-put_phrase-in-Phrase-clause-rows : goal.put-returns-in_ok-put_phrase-in-Phrase-clause-rows
put-returns-in_ok-put_phrase-in-Phrase-clause-rows t c = record {
  rest = λ asked stand.
      let place = c.args.place.now - c.len.result in
      let tree : tree_of c.args.query.now ≡ Phrase (map string_bytes c.deref.result.now) = search rules in
      c.in_ok-put_phrase-in-Phrase.ensures.rows asked (subst (λ (q : Tree). StandAt asked place (leaves q)) tree stand);
}

pub put-returns-in_ok-put_part-in-Prefix-clause-rows : goal.put-returns-in_ok-put_part-in-Prefix-clause-rows
put-returns-in_ok-put_part-in-Prefix-clause-rows t c = record {
  rest = λ asked stand.
      let place = c.args.place.now - 1 in
      c.in_ok-put_part-in-Prefix.ensures.rows asked (subst RestsOnWords (sym (of_prefix asked place)) (prefix_rests asked place));
}

pub put-returns-in_ok-rule_out-in-Not-clause-rows : goal.put-returns-in_ok-rule_out-in-Not-clause-rows
put-returns-in_ok-rule_out-in-Not-clause-rows t c = record {
  rest = λ asked stand.
      let tree : tree_of c.args.query.now ≡ Not (tree_of c.deref-in-Not.result.now) = search rules in
      c.in_ok-rule_out-in-Not.ensures.rows asked
      (c.in_ok-plan-in-Not.ensures.rows asked (subst (λ (q : Tree). StandAt asked c.plan_of.new.place (leaves q)) tree stand));
}

pub put-returns-in_ok-gather-in-And-2-clause-rows : goal.put-returns-in_ok-gather-in-And-2-clause-rows
put-returns-in_ok-gather-in-And-2-clause-rows t c = record {
  rest = λ asked stand rest.
      let left = tree_of c.deref-in-And-2.result.now in
      let right = tree_of c.deref-in-And.result.now in
      let tree : tree_of c.args.query.now ≡ And left right = search rules in
      let place = c.gather-in-And.new.place in
      let both = subst (λ (q : Tree). StandAt asked place (leaves q)) tree stand in
      c.in_ok-gather-in-And-2.ensures.rows.rest asked (stand_left asked (leaves left) (leaves right) place both)
      (c.in_ok-gather-in-And.ensures.rows.rest asked
      (stand_right asked (leaves left) (leaves right) place c.gather.new.place c.in_ok-gather-in-And-2.ensures.passed both) rest);
}

pub put-returns-in_ok-put_part-in-Or-clause-rows : goal.put-returns-in_ok-put_part-in-Or-clause-rows
put-returns-in_ok-put_part-in-Or-clause-rows t c = record {
  rest = λ asked stand rest.
      let left = tree_of c.deref-in-Or-2.result.now in
      let right = tree_of c.deref-in-Or.result.now in
      let tree : tree_of c.args.query.now ≡ Or left right = search rules in
      let place = c.join-in-Or.new.place in
      let both = subst (λ (q : Tree). StandAt asked place (leaves q)) tree stand in
      let last = c.in_ok-join-in-Or.ensures in
      let first = c.in_ok-join-in-Or-2.ensures in
      c.in_ok-put_part-in-Or.ensures.rows asked
      (c.united.ensures.rows asked
      (first.rows.rest asked (stand_left asked (leaves left) (leaves right) place both)
      (last.rows.rest asked (stand_right asked (leaves left) (leaves right) place c.join.new.place first.passed both)
      (subst (AllRest asked) (sym c.new-plans.ensures.items) tt))))
      rest;
}

pub gather-returns : goal.gather-returns
gather-returns t c = record {
  operands = search rules;
  rows = record {
    rest = λ asked stand rest.
        let known = c.loop-rest.invariant.rows.each asked c.put.new.place c.in_ok-put.ensures.passed stand rest in
        c.in_ok-put.ensures.rows.rest asked known.0 known.1;
  };
  passed = search rules;
}

pub join-returns : goal.join-returns
join-returns t c = record {
  plans = search rules;
  rows = record {
    rest = λ asked stand all.
        let known = c.loop-rest.invariant.rows.each asked c.conjunction.new.place c.in_ok-plan.ensures.passed stand all in
        subst (AllRest asked) (sym c.in_ok-insert.ensures.items) (c.in_ok-plan.ensures.rows asked known.0, known.1);
  };
  passed = search rules;
}

pub gather-loop-rest-preserved : goal.gather-loop-rest-preserved
gather-loop-rest-preserved t c =
    let inv = c.loop-rest.invariant in
    let left = tree_of c.deref-rest.result.now in
    let right = tree_of c.deref.result.now in
    let tree : tree_of c.loop-rest.rest.now ≡ And left right = grind (arith, common_steps) in
    let long : length (leaves (tree_of c.loop-rest.rest.now)) ≡ length (leaves left) + length (leaves right) =
    ap (λ (q : Tree). length (leaves q)) tree ∙ length-append (leaves left) (leaves right) in
    let went = c.in_ok-gather.ensures in
    record {
      deep = grind (arith, common_steps, sized-And);
      room = omega (arith, inv.room, long, went.passed);
      passed = omega (arith, inv.passed, long, went.passed);
      order = grind (arith, common_steps);
      same = λ asked words from at.
          let first = query_takes asked words from left in
          let old = operands_take asked words c.loop-rest.operands in
          inv.same asked words from (omega (arith, at, long, went.passed))
          ∙ ap (λ (q : Tree). query_takes asked words from q && old) tree
          ∙ and_assoc first (query_takes asked words (from + length (leaves left)) right) old
          ∙ ap (λ n. first && (query_takes asked words n right && old)) at
          ∙ ap (λ b. first && b) (sym (went.operands.same asked words));
      texts = λ clear none.
          let known = inv.texts clear none in
          let both : (has_phrase left || has_phrase right) ≡ false = sym (ap has_phrase tree) ∙ known.0 in (
            none_left (has_phrase left) (has_phrase right) both,
            went.operands.texts (none_right (has_phrase left) (has_phrase right) both) known.1,
          );
      rows = gathers_on _ _ left right _ _ _ _ _ inv.rows went.rows went.passed tree;
    }

pub join-loop-rest-preserved : goal.join-loop-rest-preserved
join-loop-rest-preserved t c =
    let inv = c.loop-rest.invariant in
    let left = tree_of c.deref-rest.result.now in
    let right = tree_of c.deref.result.now in
    let tree : tree_of c.loop-rest.rest.now ≡ Or left right = grind (arith, common_steps) in
    let long : length (leaves (tree_of c.loop-rest.rest.now)) ≡ length (leaves left) + length (leaves right) =
    ap (λ (q : Tree). length (leaves q)) tree ∙ length-append (leaves left) (leaves right) in
    let went = c.in_ok-join.ensures in
    record {
      deep = grind (arith, common_steps, sized-Or);
      room = omega (arith, inv.room, long, went.passed);
      passed = omega (arith, inv.passed, long, went.passed);
      order = grind (arith, common_steps);
      more = grind (arith, common_steps);
      same = λ asked words from at.
          let first = query_takes asked words from left in
          let old = any_takes asked words c.loop-rest.plans.items in
          inv.same asked words from (omega (arith, at, long, went.passed))
          ∙ ap (λ (q : Tree). query_takes asked words from q || old) tree
          ∙ or_assoc first (query_takes asked words (from + length (leaves left)) right) old
          ∙ ap (λ n. first || (query_takes asked words n right || old)) at
          ∙ ap (λ b. first || b) (sym (went.plans.same asked words));
      texts = λ clear none.
          let known = inv.texts clear none in
          let both : (has_phrase left || has_phrase right) ≡ false = sym (ap has_phrase tree) ∙ known.0 in (
            none_left (has_phrase left) (has_phrase right) both,
            went.plans.texts (none_right (has_phrase left) (has_phrase right) both) known.1,
          );
      rows = joins_on _ _ left right _ _ _ _ _ inv.rows went.rows went.passed tree;
    }
