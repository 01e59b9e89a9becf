-- What is put, and what the segments and the extents that are left put; the entries have what is put.
use Rattle.std.proofs.Common.{◌≡◌, ◌++◌, drop, length}
use Rattle.pk_open.specs.Opened.{entries_of}
use Rattle.pk_layout.specs.Change.{new_lists_in, with_lists}
use Rattle.pk_layout.proofs.change.new_lists_in.Given as goal

abbrev pub invariant-loop-place : goal.invariant-loop-place
invariant-loop-place l = record {
  lists : l.lists.items ++ new_lists_in l.place (drop l.place l.opened) (drop (length l.lists.items) l.extents) ≡ new_lists_in 0 l.opened l.extents;
  entries : l.entries.items ≡ entries_of (with_lists l.opened l.lists.items);
}
