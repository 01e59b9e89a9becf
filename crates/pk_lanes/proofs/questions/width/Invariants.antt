-- The lanes so far have the width of the numbers so far.
use Rattle.pk_lanes.specs.Progress.{Covers}
use Rattle.pk_lanes.proofs.questions.width.Given as goal

abbrev pub invariant-vectors : goal.invariant-vectors
invariant-vectors l = Covers l.k l.xs l.all
