-- The entries so far are open, and the disk was only read.
use Rattle.std.proofs.Common.{◌≡◌, ◌≤◌, drop, take, Ok}
use Rattle.std.specs.Prelude.{All}
use Rattle.pk_open.specs.Opened.{entries_of}
use Rattle.pk_open.specs.Opening.{IsOpenSoFar}
use Rattle.pk_open.specs.Opening.{IsGrown}
use Rattle.pk_posting.specs.Limits.{most_lent}
use Rattle.pk_segment.specs.Ahead.{ahead_room}
use Rattle.pk_segment.specs.OnlyRead.{ReadsDisk}
use Rattle.pk_segment.specs.Reading.{CountsReads}
use Rattle.pk_open.proofs.opening.open_segments.Given as goal

abbrev pub invariant-loop-entry : goal.invariant-loop-entry
invariant-loop-entry g l =
    let D = g.D.Disk in
    record {
      left : ReadsDisk D CountsReads (Ok (tt {0})) l.fn.disk l.disk;
      entries : entries_of l.segments.items ≡ take l.entry-index l.manifest.entries.items;
      grown : All IsGrown l.segments.items;
      room : most_lent ≤ ahead_room l.ahead;
      open_so_far : D.honest → IsOpenSoFar (D.content l.fn.disk) l.manifest.next_number l.manifest.entries.items l.low l.segments.items (drop l.entry-index l.manifest.entries.items);
    }
