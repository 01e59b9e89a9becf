-- The differences of the vectors so far, and the vector before the next.
use Rattle.std.proofs.Common.{◌≡◌, length}
use Rattle.pk_lanes.specs.Progress.{RestoresTo}
use Rattle.pk_lanes.proofs.differences.differ.Given as goal

abbrev pub invariant-vectors : goal.invariant-vectors
invariant-vectors l = (length l.ds ≡ 128) × RestoresTo l.k l.seed l.ds l.xs l.before
