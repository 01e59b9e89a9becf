-- Up to each place before which just the first of those noted lie, what the inputs leave is joined.
use Rattle.std.proofs.Common.{◌≡◌, ◌<◌, ℕ, List, Ok, Some, get_or, length, slice_index, take}
use Rattle.std.specs.Prelude.{All}
use Rattle.pk_join.specs.declared.input.MergeInput.{MergeInput}
use Rattle.pk_join.specs.Inputs.{SpellsInputs}
use Rattle.pk_join.specs.Joining.{joined_in}
use Rattle.pk_join.specs.Noted.{least_of}
use Rattle.pk_join.specs.Rooms.{IsRoomy}
use Rattle.pk_join.specs.WalkInput.{HaveExtentsOf, Holds, StandAs, heads_of, lists_of, passed_in}
use Rattle.pk_join.specs.Walking.{AreListed, CanHold, IsAtHeads}
use Rattle.pk_join.specs.Whole.{WordIsWhole}
use Rattle.pk_posting.specs.Source.{CountsFaults}
use Rattle.pk_segment.specs.Indexed.{list_with}
use Rattle.pk_segment.specs.OnlyRead.{ReadsDisk}
use Rattle.pk_state.specs.Committed.{Stored, live_in}
use Rattle.pk_join.proofs.JoinNoted.{IsGap}
use Rattle.pk_join.proofs.StandLemmas.{AllNotedWithin}
use Rattle.pk_join.specs.declared.walk_input.Input.{Input}
use Rattle.pk_join.proofs.walking.join_noted.Given as goal

abbrev pub invariant-loop-k : goal.invariant-loop-k
invariant-loop-k g l =
    let disk = g.D.Disk in
    record {
      left : ReadsDisk disk CountsFaults (Ok (tt {0})) l.fn.disk l.disk;
      room : l.list.joined.room ≡ l.fn.list.joined.room;
      made : length l.list.made.items ≡ length l.fn.list.made.items;
      within : AllNotedWithin l.found l.inputs;
      stand : StandAs l.fn.inputs l.inputs;
      whole : (j : ℕ) (d : Input) → j < l.k
          → WordIsWhole (disk.honest × All (Holds (disk.content l.fn.disk)) l.fn.inputs) (disk.content l.fn.disk)
          (get_or l.fn.inputs (slice_index l.found j) d)
          (passed_in (get_or l.fn.inputs (slice_index l.found j) d));
      hold : disk.honest → All (Holds (disk.content l.fn.disk)) l.fn.inputs
          → All (Holds (disk.content l.disk)) l.inputs;
      rooms : (bytes : List ℕ) → All (IsRoomy bytes) l.fn.inputs → All (IsRoomy bytes) l.inputs;
      joined : disk.honest → (given : List MergeInput) (stored : List Stored) (w : List ℕ)
          → HaveExtentsOf given l.fn.inputs → All (Holds (disk.content l.fn.disk)) l.fn.inputs
          → SpellsInputs (disk.content l.fn.disk) given stored
          → AreListed given (lists_of l.fn.inputs) stored → CanHold stored l.fn.list.joined.room
          → least_of (heads_of l.fn.inputs) (length (heads_of l.fn.inputs)) ≡ Some w
          → IsAtHeads (heads_of l.fn.inputs) w stored → (b : ℕ)
          → IsGap (length (heads_of l.fn.inputs)) l.found l.k b
          → joined_in l.list.joined ≡ list_with w (live_in (take b stored));
    }
