-- The numbers of the vectors so far, and the last of these.
use Rattle.std.proofs.Common.{◌≡◌, length}
use Rattle.pk_lanes.specs.Progress.{RestoresTo}
use Rattle.pk_lanes.proofs.differences.restore.Given as goal

abbrev pub invariant-vectors : goal.invariant-vectors
invariant-vectors l = (length l.xs ≡ 128) × RestoresTo l.k l.seed l.ds l.xs l.last
