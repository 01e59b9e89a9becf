use Rattle.std.proofs.Common.{◌≡◌, ◌<◌, ◌≤◌, ◌-◌, ◌*◌, ℕ, slice_index, length}
use Rattle.pk_posting.specs.Posting.{word}
use Rattle.pk_posting.proofs.lent.words_of.Given as goal

abbrev pub invariant-loop-i : goal.invariant-loop-i
invariant-loop-i l = record {
  long : length l.words ≡ 10;
  zero : (i : ℕ) → i < l.from → slice_index l.words i ≡ 0;
  value : (i : ℕ) → l.from ≤ i → i < l.i → slice_index l.words i ≡ word l.bytes (4 * (i - l.from));
}
