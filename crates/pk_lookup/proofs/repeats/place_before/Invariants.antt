-- No word so far is the one at the place.
use Rattle.std.proofs.Common.{[], get_or}
use Rattle.pk_plan.specs.Words.{texts}
use Rattle.pk_lookup.specs.Repeats.{IsNew}
use Rattle.pk_lookup.proofs.repeats.place_before.Given as goal

abbrev pub invariant-loop-first : goal.invariant-loop-first
invariant-loop-first l = record {
  new : IsNew (texts l.words) l.first (get_or (texts l.words) l.place []);
}
