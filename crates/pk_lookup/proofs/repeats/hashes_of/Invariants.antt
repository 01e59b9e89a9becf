-- The hashes so far.
use Rattle.std.proofs.Common.{◌≡◌, ◌<◌, ℕ, [], get_or, length}
use Rattle.pk_filter.specs.declared.hash.WordHash.{WordHash}
use Rattle.pk_filter.specs.Hashed.{hashed}
use Rattle.pk_plan.specs.Words.{texts}
use Rattle.pk_lookup.proofs.repeats.hashes_of.Given as goal

abbrev pub invariant-loop-place : goal.invariant-loop-place
invariant-loop-place l = record {
  long : length l.hashes.items ≡ l.place;
  each : (j : ℕ) (d : WordHash) → j < l.place → get_or l.hashes.items j d ≡ hashed (get_or (texts l.words) j []);
}
