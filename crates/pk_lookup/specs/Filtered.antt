-- What filters that are kept from find to find have of open segments.
use Rattle.std.specs.Prelude.{◌≡◌, ◌⊎◌, ◌<◌, ℕ, List, All, Contains, IfSome, None, Some}
use Rattle.pk_disk.specs.Units.{extent_bytes}
use Rattle.pk_filter.specs.declared.filter.WordFilter.{WordFilter}
use Rattle.pk_filter.specs.Filter.{HasAll}
use Rattle.pk_model.specs.Collection.{Doc}
use Rattle.pk_open.specs.declared.opened.OpenSegment.{OpenSegment}
use Rattle.pk_lookup.specs.declared.filters.SegmentFilter.{SegmentFilter}
use Rattle.pk_lookup.specs.declared.tables.WordTables.{WordTables}
use Rattle.pk_segment.specs.Indexed.{items_of}
use Rattle.pk_segment.specs.Placed.{IsIndexedOf}
use Rattle.pk_segment.specs.Spelling.{IndexSpells}

-- the filters among the tables of finds
abbrev pub filters_of : WordTables → List SegmentFilter
filters_of tables = tables.filters.kept.items

-- a filter has the words of the documents that the bytes have, where the open segment is theirs
abbrev pub HasWordsOf : List ℕ → OpenSegment → WordFilter → Type 0
HasWordsOf bytes o filter =
    (docs : List Doc) → IndexSpells bytes docs → IsIndexedOf o.segment docs
    → HasAll (items_of docs) filter

-- so has the one that is kept under the id of the segment
abbrev pub IsFilterFor : List ℕ → OpenSegment → SegmentFilter → Type 0
IsFilterFor bytes o kept = kept.segment ≡ o.entry.segment → IfSome kept.filter (HasWordsOf bytes o)

-- the filters agree with an open segment: with what its entry's extent has
abbrev pub FiltersAgreeAt : List ℕ → List SegmentFilter → OpenSegment → Type 0
FiltersAgreeAt bytes filters o = All (IsFilterFor (extent_bytes bytes o.entry.extent) o) filters

-- THE FILTERS AGREE with open segments: with each
abbrev pub FiltersAgree : List ℕ → List SegmentFilter → List OpenSegment → Type 0
FiltersAgree bytes filters opened = All (FiltersAgreeAt bytes filters) opened

-- filters are kept of segments of ids below this one alone
abbrev pub FiltersBelow : ℕ → List SegmentFilter → Type 0
FiltersBelow next filters =
    All (λ (k : SegmentFilter). IfSome k.filter (λ _. k.segment < next)) filters

-- a filter is kept under this id
pub record KeepsFilter (filters : List SegmentFilter) (id : ℕ) (filter : WordFilter) : Type 0 where
  pub kept : SegmentFilter
  pub among : Contains filters kept
  pub of : kept.segment ≡ id
  pub is : kept.filter ≡ Some filter

-- whatever is kept was kept before, or has no filter
abbrev pub AddsNoFilter : List SegmentFilter → List SegmentFilter → Type 0
AddsNoFilter old new = All (λ (k : SegmentFilter). Contains old k ⊎ (k.filter ≡ None)) new

-- whatever is kept was kept before, or has no filter, or that of the open segment: under its id, and
-- with its words where the source is honest
abbrev pub AddsFilterOf : Type 0 → List ℕ → OpenSegment → List SegmentFilter → List SegmentFilter
    → Type 0
AddsFilterOf honest bytes o old new =
    All (λ (k : SegmentFilter). Contains old k ⊎ IfSome k.filter (λ filter.
    (k.segment ≡ o.entry.segment) × (honest → HasWordsOf bytes o filter))) new
