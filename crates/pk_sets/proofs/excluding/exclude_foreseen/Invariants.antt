-- What is written, what is left, and which of four are met already.
use Rattle.std.proofs.Common.{◌+◌, ◌-◌, length}
use Rattle.pk_sets.proofs.HitLemmas.{IsMet}
use Rattle.pk_sets.proofs.excluding.exclude_foreseen.Given as goal

abbrev pub invariant-fours : goal.invariant-fours
invariant-fours l = IsMet l.a l.b l.out l.i l.j l.n l.seen l.start

abbrev pub decreases-fours : goal.decreases-fours
decreases-fours l = (length l.a - l.i) + (length l.b - l.j)
