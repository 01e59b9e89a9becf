-- Nothing is kept that has a filter and was not kept before, and the limit and the count are kept.
use Rattle.std.proofs.Common.{◌≡◌}
use Rattle.pk_lookup.specs.Counted.{AreCounted}
use Rattle.pk_lookup.specs.FilterBytes.{KeepsLimit}
use Rattle.pk_lookup.specs.Filtered.{AddsNoFilter}
use Rattle.pk_lookup.proofs.filters.SegmentFilters.settle.Given as goal

abbrev pub invariant-loop-place : goal.invariant-loop-place
invariant-loop-place l = record {
  adds : AddsNoFilter l.fn.self.kept.items l.self.kept.items;
  limit : KeepsLimit l.fn.self → KeepsLimit l.self;
  counted : AreCounted l.fn.self → AreCounted l.self;
  bytes : l.self.bytes ≡ l.fn.self.bytes;
}
