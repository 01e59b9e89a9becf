-- The places so far.
use Rattle.std.proofs.Common.{◌≡◌, ◌<◌, ℕ, get_or, length}
use Rattle.pk_plan.specs.Words.{texts}
use Rattle.pk_lookup.specs.Repeats.{IsFirst, IsKnown}
use Rattle.pk_lookup.proofs.repeats.many_places.Given as goal

abbrev pub invariant-loop-place : goal.invariant-loop-place
invariant-loop-place l = record {
  long : length l.firsts.items ≡ l.place;
  each : (j : ℕ) → j < l.place → IsFirst (texts l.words) j (get_or l.firsts.items j 0);
  known : IsKnown (texts l.words) l.place l.known;
}
