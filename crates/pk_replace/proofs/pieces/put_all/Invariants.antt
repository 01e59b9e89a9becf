-- The pieces so far are there, and nothing else was written.
use Rattle.std.proofs.Common.{◌≡◌, map, take}
use Rattle.pk_disk.specs.Frames.{KeepsReads}
use Rattle.pk_replace.specs.Claims.{Each, IsThere, claim_of, places}
use Rattle.pk_replace.specs.Writing.{WritesOnly}
use Rattle.pk_replace.proofs.pieces.put_all.Given as goal

abbrev pub invariant-loop-piece : goal.invariant-loop-piece
invariant-loop-piece g l = record {
  only : WritesOnly g.D.Disk (places (map claim_of (take l.piece-index l.pieces))) l.fn.disk l.disk;
  there : g.D.Disk.honest → Each (IsThere (g.D.Disk.content l.disk)) (map claim_of (take l.piece-index l.pieces));
  keeps : KeepsReads g.D.Disk l.fn.disk l.disk;
  writes : g.D.Disk.failed_writes l.disk ≡ g.D.Disk.failed_writes l.fn.disk;
}
