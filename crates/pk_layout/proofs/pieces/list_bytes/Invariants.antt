-- The lists of the segments so far are put.
use Rattle.std.proofs.Common.{◌≡◌, map, take}
use Rattle.pk_layout.specs.Plan.{CanBeWritten, new_lists}
use Rattle.pk_layout.proofs.pieces.list_bytes.Given as goal

abbrev pub invariant-loop-segment : goal.invariant-loop-segment
invariant-loop-segment l = record {
  lists : map (λ w. w.items) l.lists.items ≡ new_lists (take l.segment-index l.opened);
  sizes : CanBeWritten (new_lists (take l.segment-index l.opened));
}
