-- The places so far have slots.
use Rattle.std.proofs.Common.{◌≡◌, length, take}
use Rattle.pk_terms.specs.Slots.{HaveSlots}
use Rattle.pk_terms.specs.Table.{hashes_of}
use Rattle.pk_terms.proofs.terms.fill_all.Given as goal

abbrev pub invariant-places : goal.invariant-places
invariant-places l = record {
  len : length l.slots ≡ length l.fn.slots;
  filled : HaveSlots (hashes_of (take l.place l.entries)) l.slots;
}
