-- The first extents are filled in.
use Rattle.std.proofs.Common.{◌≡◌, false, length, take}
use Rattle.pk_manifest.specs.Evolves.{Evolves}
use Rattle.pk_snapshot.specs.Counted.{FailsByCalls}
use Rattle.pk_snapshot.specs.Shared.{IsFilled}
use Rattle.pk_snapshot.proofs.filling.fill.Given as goal

abbrev pub invariant-loop-extent : goal.invariant-loop-extent
invariant-loop-extent g l = record {
  given : g.F.SharedFile.honest → IsFilled (g.F.SharedFile.content l.initial.file) (g.F.SharedFile.content l.file) (take l.extent-index l.shown) l.at l.out;
  evolves : g.F.SharedFile.honest → Evolves (g.F.SharedFile.content l.initial.file) (g.F.SharedFile.content l.file);
  marked : g.F.SharedFile.honest → g.F.SharedFile.marked l.file ≡ g.F.SharedFile.marked l.initial.file;
  fails : g.F.SharedFile.honest → FailsByCalls g.F.SharedFile.failed g.F.SharedFile.interrupted (length l.out) false l.initial.file l.file;
}
