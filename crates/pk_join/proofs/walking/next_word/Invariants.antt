-- The inputs leave nothing of the words that were passed here, so as many terms are to come.
use Rattle.std.proofs.Common.{◌≡◌, ◌≤◌, List, ℕ, Ok, length}
use Rattle.std.specs.Prelude.{All}
use Rattle.pk_join.specs.declared.input.MergeInput.{MergeInput}
use Rattle.pk_join.specs.Inputs.{SpellsInputs}
use Rattle.pk_join.specs.Joining.{room_in}
use Rattle.pk_join.specs.Rooms.{IsRoomy}
use Rattle.pk_join.specs.WalkInput.{HaveExtentsOf, Holds, extents_of, keys_of, lists_of, passed_of}
use Rattle.pk_join.specs.Walking.{AreListed, CanHold, Walks, to_come}
use Rattle.pk_join.specs.Whole.{PassWhole}
use Rattle.pk_segment.specs.OnlyRead.{ReadsDisk}
use Rattle.pk_segment.specs.Reading.{CountsReads}
use Rattle.pk_state.specs.Committed.{Stored}
use Rattle.pk_join.proofs.walking.next_word.Given as goal

abbrev pub decreases-words : goal.decreases-words
decreases-words g l = to_come (lists_of l.fn.inputs) (passed_of l.inputs) (length (lists_of l.fn.inputs))

abbrev pub invariant-words : goal.invariant-words
invariant-words g l =
    let disk = g.D.Disk in
    record {
      left : ReadsDisk disk CountsReads (Ok (tt {0})) l.fn.disk l.disk;
      room : room_in l.list.joined ≡ room_in l.fn.list.joined;
      made : length l.list.made.items ≡ length l.fn.list.made.items;
      found : length l.found ≡ length l.fn.found;
      inputs : length l.inputs ≡ length l.fn.inputs;
      lists : lists_of l.inputs ≡ lists_of l.fn.inputs;
      extents : extents_of l.inputs ≡ extents_of l.fn.inputs;
      keys : l.keys ≡ keys_of l.inputs;
      fewer : to_come (lists_of l.fn.inputs) (passed_of l.inputs) (length (lists_of l.fn.inputs))
          ≤ to_come (lists_of l.fn.inputs) (passed_of l.fn.inputs) (length (lists_of l.fn.inputs));
      whole : PassWhole disk.honest (disk.content l.fn.disk) l.fn.inputs l.inputs;
      rooms : (bytes : List ℕ) → All (IsRoomy bytes) l.fn.inputs → All (IsRoomy bytes) l.inputs;
      walks : disk.honest → (given : List MergeInput) (stored : List Stored) (xs ys : List (List ℕ))
          → HaveExtentsOf given l.fn.inputs → All (Holds (disk.content l.fn.disk)) l.fn.inputs
          → SpellsInputs (disk.content l.fn.disk) given stored → AreListed given (lists_of l.fn.inputs) stored
          → CanHold stored (room_in l.fn.list.joined) → Walks (passed_of l.fn.inputs) stored xs ys
          → Walks (passed_of l.inputs) stored xs ys;
    }
