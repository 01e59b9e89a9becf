use Rattle.std.proofs.Common.{◌≡◌, ◌≤◌, ◌*◌}
use Rattle.pk_posting.specs.Spelling.{widths_of}
use Rattle.pk_posting.proofs.encoding.total_width.Given as goal

abbrev pub invariant-loop-k : goal.invariant-loop-k
invariant-loop-k l = (l.total ≡ widths_of l.k l.xs) × (l.total ≤ 32 * l.k)
