-- What the dictionaries of open segments say of the words of a query, whatever their bytes are.
use Rattle.std.specs.Prelude.{◌≡◌, ◌<◌, ℕ, List, Option, get_or, length}
use Rattle.pk_dict.specs.declared.entry.Entry.{Entry}
use Rattle.pk_disk.specs.Units.{extent_bytes}
use Rattle.pk_lookup.specs.declared.filters.SegmentFilter.{SegmentFilter}
use Rattle.pk_lookup.specs.Rows.{row_of}
use Rattle.pk_lookup.specs.Said.{KeepsNone, SaysOfEach}
use Rattle.pk_open.specs.declared.opened.OpenSegment.{OpenSegment}
use Rattle.pk_segment.specs.Placed.{dictionary_of}

-- of each of the first so many open segments, if it is of kind 2 and has no filter, the row is what
-- its dictionary says of the words
abbrev pub AreSaidTo : ℕ → List ℕ → List (List ℕ) → List OpenSegment → List SegmentFilter
    → List (Option Entry) → Type 0
AreSaidTo count bytes words opened filters table =
    (i : ℕ) (o : OpenSegment) → i < count → o ≡ get_or opened i o → o.entry.kind ≡ 2
    → KeepsNone filters o.entry.segment
    → SaysOfEach (extent_bytes bytes o.entry.extent) (dictionary_of o.segment) words
    (row_of (length words) i table)

-- so it is of all of them
abbrev pub AreSaid : List ℕ → List (List ℕ) → List OpenSegment → List SegmentFilter
    → List (Option Entry) → Type 0
AreSaid bytes words opened filters table =
    AreSaidTo (length opened) bytes words opened filters table
