-- Nothing is known yet but that the file evolved.
use Rattle.std.proofs.Common.{◌≡◌}
use Rattle.pk_manifest.specs.Evolves.{Evolves}
use Rattle.pk_snapshot.proofs.CallLemmas.{GoesOn}
use Rattle.pk_snapshot.proofs.reading.read_once.Given as goal

abbrev pub invariant-tries : goal.invariant-tries
invariant-tries g l = record {
  evolves : g.F.SharedFile.honest → Evolves (g.F.SharedFile.content l.initial.file) (g.F.SharedFile.content l.file);
  marked : g.F.SharedFile.honest → g.F.SharedFile.marked l.file ≡ g.F.SharedFile.marked l.initial.file;
  goes : g.F.SharedFile.honest → GoesOn g.F.SharedFile.failed g.F.SharedFile.interrupted l.counter 0 l.initial.file l.file;
}
