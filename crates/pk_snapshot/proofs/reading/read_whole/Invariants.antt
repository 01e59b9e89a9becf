-- The start of the bytes is seen.
use Rattle.std.proofs.Common.{◌≡◌, ◌≤◌, length}
use Rattle.pk_manifest.specs.Evolves.{Evolves}
use Rattle.pk_snapshot.specs.Shared.{AreSeen}
use Rattle.pk_snapshot.proofs.CallLemmas.{GoesOn}
use Rattle.pk_snapshot.proofs.reading.read_whole.Given as goal

abbrev pub invariant-parts : goal.invariant-parts
invariant-parts g l = record {
  room : l.done ≤ length l.out;
  given : g.F.SharedFile.honest → AreSeen (g.F.SharedFile.content l.initial.file) (g.F.SharedFile.content l.file) l.at l.done l.out;
  evolves : g.F.SharedFile.honest → Evolves (g.F.SharedFile.content l.initial.file) (g.F.SharedFile.content l.file);
  marked : g.F.SharedFile.honest → g.F.SharedFile.marked l.file ≡ g.F.SharedFile.marked l.initial.file;
  goes : g.F.SharedFile.honest → GoesOn g.F.SharedFile.failed g.F.SharedFile.interrupted l.counter l.done l.initial.file l.file;
}
