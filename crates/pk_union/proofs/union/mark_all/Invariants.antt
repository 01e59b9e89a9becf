-- The numbers of the list so far are marked beside those that were.
use Rattle.std.proofs.Common.{◌≡◌, ◌||◌, ℕ, length, take}
use Rattle.pk_union.specs.Union.{marked}
use Rattle.pk_sets.specs.Sets.{has}
use Rattle.pk_union.proofs.union.mark_all.Given as goal

abbrev pub invariant-loop-i : goal.invariant-loop-i
invariant-loop-i l = record {
  long : length l.marks ≡ length l.fn.marks;
  numbers : (n : ℕ) → has (marked l.first l.marks) n ≡ (has (take l.i l.list) n || has (marked l.first l.fn.marks) n);
}
