-- What the inputs so far leave was gathered, and the documents of the others rise.
use Rattle.std.proofs.Common.{List, Ok, take, drop}
use Rattle.pk_join.specs.Inputs.{SpellsInputs}
use Rattle.pk_merge.specs.Gathering.{GathersAs, RiseFrom}
use Rattle.pk_merge.specs.Merging.{CountsMerge}
use Rattle.pk_segment.specs.OnlyRead.{ReadsDisk}
use Rattle.pk_state.specs.Committed.{Stored, all_in, live_in}
use Rattle.pk_merge.proofs.merging.gather_all.Given as goal

abbrev pub invariant-loop-input : goal.invariant-loop-input
invariant-loop-input g l =
    let disk = g.D.Disk in
    record {
      left : ReadsDisk disk CountsMerge (Ok (tt {0})) l.fn.disk l.disk;
      gathered : disk.honest → (stored : List Stored) → SpellsInputs (disk.content l.fn.disk) l.inputs stored
          → RiseFrom l.fn.gathered.last (all_in stored)
          → GathersAs (live_in (take l.input-index stored)) (all_in (drop l.input-index stored))
          l.fn.gathered l.gathered (Ok (tt {0}));
    }
