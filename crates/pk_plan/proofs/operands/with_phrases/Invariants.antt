-- The plan takes what the one at the start and the phrases so far take.
use Rattle.std.proofs.Common.{◌≡◌, ◌&&◌, ℕ, List, true, take}
use Rattle.std.specs.Simd.Lanes.{Each1}
use Rattle.pk_plan.specs.declared.operands.PhrasePlaces.{PhrasePlaces}
use Rattle.pk_plan.specs.Rows.{RestsOnWords, has_each, row_of}
use Rattle.pk_plan.specs.Operands.{phrases_take}
use Rattle.pk_plan.specs.Order.{is_ordered}
use Rattle.pk_plan.specs.Plans.{operation_of, takes}
use Rattle.pk_plan.specs.Texts.{reads_texts}
use Rattle.pk_plan.proofs.operands.with_phrases.Given as goal

abbrev pub invariant-phrases : goal.invariant-phrases
invariant-phrases l = record {
  same : (asked words : List (List ℕ)) → takes (operation_of asked l.plan) words ≡ (takes (operation_of asked l.fn.all) words && phrases_take asked words (take l.i l.phrases));
  none : l.i ≡ 0 → reads_texts l.plan ≡ reads_texts l.fn.all;
  order : (table : List ℕ) → is_ordered table l.plan ≡ is_ordered table l.fn.all;
  rows : (asked : List (List ℕ)) → RestsOnWords (operation_of asked l.fn.all)
      → Each1 (λ (p : PhrasePlaces). (words : List (List ℕ)) → takes (operation_of asked l.fn.all) words ≡ true → has_each (row_of asked p) words ≡ true) l.phrases
      → RestsOnWords (operation_of asked l.plan);
}
