-- The segments with the lists so far.
use Rattle.std.proofs.Common.{◌≡◌, vec_capacity}
use Rattle.pk_layout.specs.Change.{with_lists}
use Rattle.pk_layout.proofs.change.put_lists.Given as goal

abbrev pub invariant-loop-list : goal.invariant-loop-list
invariant-loop-list l = record {
  items : l.opened.items ≡ with_lists l.fn.opened.items l.yielded;
  room : vec_capacity l.opened ≡ vec_capacity l.fn.opened;
}
