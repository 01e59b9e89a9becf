-- Nothing is known yet but that no call changed anything.
use Rattle.std.proofs.Common.{◌≡◌}
use Rattle.pk_snapshot.proofs.CallLemmas.{GoesOn}
use Rattle.pk_snapshot.proofs.reading.length_of.Given as goal

abbrev pub invariant-tries : goal.invariant-tries
invariant-tries g l = record {
  bytes : g.F.SharedFile.honest → g.F.SharedFile.content l.file ≡ g.F.SharedFile.content l.initial.file;
  marked : g.F.SharedFile.honest → g.F.SharedFile.marked l.file ≡ g.F.SharedFile.marked l.initial.file;
  goes : g.F.SharedFile.honest → GoesOn g.F.SharedFile.failed g.F.SharedFile.interrupted l.counter 0 l.initial.file l.file;
}
