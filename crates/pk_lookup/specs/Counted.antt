-- That the bytes of the filters that are kept are counted, no more and no less.
use Rattle.std.specs.Prelude.{◌≡◌, ◌⊎◌, All, None}
use Rattle.pk_lookup.specs.declared.filters.SegmentFilter.{SegmentFilter}
use Rattle.pk_lookup.specs.declared.filters.SegmentFilters.{SegmentFilters}
use Rattle.pk_lookup.specs.declared.filters.TheConstants.{DECIDED}
use Rattle.pk_lookup.specs.FilterBytes.{bytes_in}

-- a segment has no filter, or it is decided
abbrev pub IsDecided : SegmentFilter → Type 0
IsDecided k = (k.filter ≡ None) ⊎ (k.looks ≡ DECIDED)

-- THE FILTERS ARE COUNTED: what is counted is what they take, and no segment has one before it is
-- decided
pub record AreCounted (filters : SegmentFilters) : Type 0 where
  pub bytes : filters.bytes ≡ bytes_in filters.kept.items
  pub decided : All IsDecided filters.kept.items
