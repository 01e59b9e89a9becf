-- The runs so far, and those between the extents that are left.
use Rattle.std.proofs.Common.{◌≡◌, ◌++◌, drop}
use Rattle.pk_space.specs.Runs.{gaps}
use Rattle.pk_space.proofs.runs.runs_between.Given as goal

abbrev pub invariant-loop-e : goal.invariant-loop-e
invariant-loop-e l = l.runs.items ++ gaps l.low l.units (drop l.e-index l.extents) ≡ gaps 34 l.units l.extents
