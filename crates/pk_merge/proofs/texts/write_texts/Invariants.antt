-- The texts so far are given.
use Rattle.std.proofs.Common.{◌+◌, ◌-◌, ◌≡◌, ◌≤◌, List, length, take}
use Rattle.pk_model.specs.Collection.{Doc}
use Rattle.pk_segment.specs.Spelling.{texts}
use Rattle.pk_merge.specs.Keeping.{AreKept}
use Rattle.pk_merge.specs.Output.{AreGiven, IsGiven}
use Rattle.pk_merge.proofs.GivenLemmas.{well}
use Rattle.pk_merge.proofs.texts.write_texts.Given as goal

abbrev pub decreases-loop-done : goal.decreases-loop-done
decreases-loop-done g l = length l.documents - l.done

abbrev pub invariant-loop-done : goal.invariant-loop-done
invariant-loop-done g l =
    let disk = g.D.Disk in
    record {
      most : l.done ≤ length l.documents;
      room : length l.room ≡ length l.fn.room;
      given : IsGiven disk l.fn.disk l.disk l.fn.output l.output well;
      texts : disk.honest → (docs : List Doc) → AreKept (disk.content l.fn.disk) l.documents docs
          → l.fn.output.at + l.fn.output.filled + length (texts docs) ≤ l.fn.output.end
          → AreGiven disk l.fn.disk l.disk l.fn.output l.output (texts (take l.done docs)) well;
    }
