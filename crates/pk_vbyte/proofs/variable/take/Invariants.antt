use Rattle.pk_vbyte.proofs.Taking.{SoFar}
use Rattle.pk_vbyte.proofs.variable.take.Given as goal

abbrev pub invariant-loop-i : goal.invariant-loop-i
invariant-loop-i l = SoFar l.bytes l.i l.n
