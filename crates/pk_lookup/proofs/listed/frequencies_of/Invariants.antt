-- The sums so far, each at the place of its word.
use Rattle.std.proofs.Common.{◌≡◌, ◌<◌, ℕ, get_or, length}
use Rattle.pk_lookup.specs.Frequencies.{sum_of}
use Rattle.pk_lookup.proofs.listed.frequencies_of.Given as goal

abbrev pub invariant-loop-place : goal.invariant-loop-place
invariant-loop-place l = record {
  long : length l.sums.items ≡ l.place;
  each : (p : ℕ) → p < l.place → get_or l.sums.items p 0 ≡ sum_of l.table.words l.table.segments l.table.entries.now p;
}
