-- Which filters a look-up may drop.
use Rattle.std.specs.Prelude.{◌≡◌, ℕ, List}
use Rattle.pk_filter.specs.declared.filter.WordFilter.{WordFilter}
use Rattle.pk_lookup.specs.declared.filters.SegmentFilter.{SegmentFilter}
use Rattle.pk_lookup.specs.Filtered.{KeepsFilter}

-- each filter that was kept is kept still, but for the one of the segment of this id
abbrev pub DropsOnlyOf : ℕ → List SegmentFilter → List SegmentFilter → Type 0
DropsOnlyOf id old new = (other : ℕ) (filter : WordFilter) → (other ≡ id → ⊥)
    → KeepsFilter old other filter → KeepsFilter new other filter
