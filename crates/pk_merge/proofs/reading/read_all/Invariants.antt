-- The inputs so far were read, and the documents of the others rise.
use Rattle.std.proofs.Common.{◌≡◌, ◌≤◌, ◌+◌, List, Ok, length, take, drop}
use Rattle.std.specs.Prelude.{All}
use Rattle.std.specs.List.Sorted.{IsStrictlyIncreasing}
use Rattle.pk_join.specs.Inputs.{SpellsInputs}
use Rattle.pk_join.specs.WalkInput.{HaveExtentsOf, IsBefore, lists_of}
use Rattle.pk_join.specs.Walking.{AreListed}
use Rattle.pk_model.specs.Collection.{numbers_of}
use Rattle.pk_segment.specs.OnlyRead.{ReadsDisk}
use Rattle.pk_state.specs.Committed.{Stored, all_in, live_in}
use Rattle.pk_merge.specs.Counting.{counts_said, numbers_listed}
use Rattle.pk_merge.specs.Gathering.{RiseFrom}
use Rattle.pk_merge.specs.Keeping.{AreKept, StayApart}
use Rattle.pk_merge.specs.Left.{kept_in}
use Rattle.pk_merge.specs.Merging.{CountsMerge}
use Rattle.pk_merge.specs.Said.{AreAllSaid}
use Rattle.pk_merge.proofs.reading.read_all.Given as goal

abbrev pub invariant-loop-input : goal.invariant-loop-input
invariant-loop-input g l =
    let disk = g.D.Disk in
    record {
      left : ReadsDisk disk CountsMerge (Ok (tt {0})) l.fn.disk l.disk;
      disk_bytes : l.left.disk_bytes ≡ length (disk.content l.fn.disk);
      apart : StayApart l.inputs (kept_in l.left);
      enough : disk.honest → counts_said (disk.content l.fn.disk) (take l.input-index l.inputs)
          ≤ length (kept_in l.left) + numbers_listed (take l.input-index l.inputs);
      said : disk.honest → AreAllSaid (disk.content l.fn.disk) (take l.input-index l.inputs)
          (lists_of l.read.items);
      extents : HaveExtentsOf (take l.input-index l.inputs) l.read.items;
      before : All IsBefore l.read.items;
      read : disk.honest → (stored : List Stored) → SpellsInputs (disk.content l.fn.disk) l.inputs stored
          → IsStrictlyIncreasing (numbers_of (all_in stored))
          → AreListed (take l.input-index l.inputs) (lists_of l.read.items) (take l.input-index stored)
          × AreKept (disk.content l.fn.disk) (kept_in l.left) (live_in (take l.input-index stored))
          × RiseFrom l.left.last (all_in (drop l.input-index stored));
    }
