-- The bytes of the filters so far.
use Rattle.std.proofs.Common.{◌≡◌, ◌-◌, ◌^◌, min, take}
use Rattle.pk_lookup.specs.FilterBytes.{bytes_in}
use Rattle.pk_lookup.proofs.filters.SegmentFilters.total.Given as goal

abbrev pub invariant-loop-kept : goal.invariant-loop-kept
invariant-loop-kept l = l.bytes ≡ min (bytes_in (take l.kept-index l.self.kept.items)) (2 ^ 64 - 1)
