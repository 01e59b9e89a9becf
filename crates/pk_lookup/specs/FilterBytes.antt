-- How many bytes the filters that are kept take, and that they keep their limit.
use Rattle.std.specs.Prelude.{ℕ, ◌*◌, ◌≤◌, List, Option, Some, None, sum_by, vec_len}
use Rattle.pk_filter.specs.declared.filter.WordFilter.{WordFilter}
use Rattle.pk_lookup.specs.declared.filters.SegmentFilter.{SegmentFilter}
use Rattle.pk_lookup.specs.declared.filters.SegmentFilters.{SegmentFilters}
use Rattle.pk_lookup.specs.declared.filters.TheConstants.{MOST_FILTER_BYTES}

-- how many a filter takes; without one none
abbrev pub bytes_of : Option WordFilter → ℕ
bytes_of None = 0
bytes_of (Some filter) = 4 * vec_len filter.lanes

-- how many all filters take together
abbrev pub bytes_in : List SegmentFilter → ℕ
bytes_in filters = sum_by (λ (k : SegmentFilter). bytes_of k.filter) filters

-- THE FILTERS KEEP THEIR LIMIT: they take no more than is counted, and that is within it
pub record KeepsLimit (filters : SegmentFilters) : Type 0 where
  pub counted : bytes_in filters.kept.items ≤ filters.bytes
  pub within : filters.bytes ≤ MOST_FILTER_BYTES
