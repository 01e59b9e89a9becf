-- The documents so far are taken, and the others rise.
use Rattle.std.proofs.Common.{◌≡◌, ◌≤◌, ◌+◌, ◌++◌, List, ℕ, length, take, drop}
use Rattle.pk_model.specs.Collection.{Doc}
use Rattle.pk_segment.specs.Directory.{IsDirectoryOf}
use Rattle.pk_merge.specs.Counting.{count_to}
use Rattle.pk_merge.specs.Gathering.{RiseFrom, left_by}
use Rattle.pk_merge.specs.Keeping.{AreKept, KeepsBetween, TextsStand}
use Rattle.pk_merge.specs.Left.{kept_in}
use Rattle.pk_merge.proofs.left.Left.take_all.Given as goal

abbrev pub invariant-loop-i : goal.invariant-loop-i
invariant-loop-i l = record {
  disk_bytes : l.self.disk_bytes ≡ l.fn.self.disk_bytes;
  between : KeepsBetween l.texts l.end (kept_in l.fn.self) (kept_in l.self);
  enough : l.i + length (kept_in l.fn.self) + count_to l.fn.self.last l.input.dead.now
      ≤ length (kept_in l.self) + count_to l.self.last l.input.dead.now;
  taken : (bytes : List ℕ) (so_far docs more : List Doc) (kind : ℕ)
      → IsDirectoryOf l.input.directory.now docs kind
      → TextsStand bytes l.texts l.end docs → RiseFrom l.fn.self.last (docs ++ more)
      → AreKept bytes (kept_in l.fn.self) so_far
      → AreKept bytes (kept_in l.self) (so_far ++ left_by l.input.dead.now (take l.i docs))
      × RiseFrom l.self.last (drop l.i docs ++ more);
}
