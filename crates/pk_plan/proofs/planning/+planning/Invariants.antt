-- The chain is gone through from its end: what is left of it, with what was gathered, is the whole.
use Rattle.std.proofs.Common.{◌≡◌, ◌&&◌, ◌||◌, ◌≤◌, ◌+◌, ℕ, List, length, true, false}
use Rattle.pk_model.specs.declared.queries.Query.{size-Query}
use Rattle.pk_model.specs.Tree.{tree_of}
use Rattle.pk_plan.specs.Operands.{IsInOrder, any_takes, operands_read, operands_take, query_takes}
use Rattle.pk_plan.specs.Order.{all_ordered}
use Rattle.std.specs.List.{list_any}
use Rattle.pk_plan.proofs.RowLemmas.{StillGathers, StillJoins}
use Rattle.pk_plan.specs.Texts.{has_phrase, reads_texts}
use Rattle.pk_plan.specs.Words.{leaves}
use Rattle.pk_plan.proofs.planning.+planning.Given as goal

abbrev pub invariant-gather-loop-rest : goal.invariant-gather-loop-rest
invariant-gather-loop-rest l = record {
  deep : size-Query l.rest ≤ size-Query l.query;
  room : length (leaves (tree_of l.rest)) ≤ l.place;
  passed : l.place + length (leaves (tree_of l.query)) ≡ l.fn.place + length (leaves (tree_of l.rest));
  order : IsInOrder l.table l.place l.operands;
  same : (asked words : List (List ℕ)) (from : ℕ) → from + length (leaves (tree_of l.rest)) ≡ l.place
      → (query_takes asked words from (tree_of l.query) && operands_take asked words l.fn.operands)
      ≡ (query_takes asked words from (tree_of l.rest) && operands_take asked words l.operands);
  texts : has_phrase (tree_of l.query) ≡ false → operands_read l.fn.operands ≡ false
      → (has_phrase (tree_of l.rest) ≡ false) × (operands_read l.operands ≡ false);
  rows : StillGathers (tree_of l.query) (tree_of l.rest) l.place l.fn.operands l.operands;
}

abbrev pub invariant-join-loop-rest : goal.invariant-join-loop-rest
invariant-join-loop-rest l = record {
  deep : size-Query l.rest ≤ size-Query l.query;
  room : length (leaves (tree_of l.rest)) ≤ l.place;
  passed : l.place + length (leaves (tree_of l.query)) ≡ l.fn.place + length (leaves (tree_of l.rest));
  order : all_ordered l.table l.fn.plans.items ≡ true → all_ordered l.table l.plans.items ≡ true;
  more : length l.fn.plans.items ≤ length l.plans.items;
  same : (asked words : List (List ℕ)) (from : ℕ) → from + length (leaves (tree_of l.rest)) ≡ l.place
      → (query_takes asked words from (tree_of l.query) || any_takes asked words l.fn.plans.items)
      ≡ (query_takes asked words from (tree_of l.rest) || any_takes asked words l.plans.items);
  texts : has_phrase (tree_of l.query) ≡ false → list_any reads_texts l.fn.plans.items ≡ false
      → (has_phrase (tree_of l.rest) ≡ false) × (list_any reads_texts l.plans.items ≡ false);
  rows : StillJoins (tree_of l.query) (tree_of l.rest) l.place l.fn.plans.items l.plans.items;
}
