-- The words from the place on are put: they change nothing where the phrase stands.
use Rattle.std.proofs.Common.{◌≡◌, ◌≤◌, ◌<◌, ◌+◌, ℕ, List, length, map, string_bytes, true}
use Rattle.pk_plan.specs.Operands.{IsInOrder, operands_take}
use Rattle.pk_plan.specs.Plans.{row_at, takes}
use Rattle.pk_plan.specs.Rows.{IsNarrowed, IsPutOnce, StandAt}
use Rattle.pk_plan.proofs.operands.Operands.put_words.Given as goal

abbrev pub invariant-words : goal.invariant-words
invariant-words l = record {
  within : l.left ≤ length l.row;
  same : (asked words : List (List ℕ)) → takes (row_at asked l.first (length l.row)) words ≡ true → operands_take asked words l.self ≡ operands_take asked words l.fn.self;
  order : IsInOrder l.table (l.first + l.left) l.self;
  narrowed : IsNarrowed l.fn.self l.self;
  once : (asked : List (List ℕ)) → StandAt asked l.first (map string_bytes l.row) → (i : ℕ) → l.left ≤ i
      → i < length l.row → IsPutOnce asked l.self (map string_bytes l.row) i;
}

abbrev pub decreases-words : goal.decreases-words
decreases-words l = l.left
