-- The words of the inputs so far are read, and as many of each were passed.
use Rattle.std.proofs.Common.{◌≡◌, ◌≤◌, ◌-◌, ℕ, List, Ok, length}
use Rattle.std.specs.Prelude.{All}
use Rattle.std.specs.List.{AllWithin}
use Rattle.pk_join.specs.Rooms.{IsRoomy}
use Rattle.pk_join.specs.WalkInput.{GoNowhere, Holds, IsRead, keys_of}
use Rattle.pk_segment.specs.OnlyRead.{ReadsDisk}
use Rattle.pk_segment.specs.Reading.{CountsReads}
use Rattle.pk_join.proofs.walking.read_heads.Given as goal

abbrev pub invariant-loop-i : goal.invariant-loop-i
invariant-loop-i g l =
    let disk = g.D.Disk in
    record {
      within : l.i ≤ length l.inputs;
      left : ReadsDisk disk CountsReads (Ok (tt {0})) l.fn.disk l.disk;
      read : AllWithin IsRead l.inputs 0 l.i;
      still : GoNowhere l.fn.inputs l.inputs;
      keys : l.keys ≡ keys_of l.inputs;
      hold : disk.honest → All (Holds (disk.content l.fn.disk)) l.fn.inputs
          → All (Holds (disk.content l.disk)) l.inputs;
      rooms : (bytes : List ℕ) → All (IsRoomy bytes) l.fn.inputs → All (IsRoomy bytes) l.inputs;
    }

abbrev pub decreases-loop-i : goal.decreases-loop-i
decreases-loop-i g l = length l.inputs - l.i
