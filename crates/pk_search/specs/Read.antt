-- What a find has read of segments without an index, whatever the bytes are: each document.
use Rattle.std.specs.Prelude.{◌≡◌, ℕ, List, All}
use Rattle.pk_disk.specs.Units.{extent_bytes}
use Rattle.pk_open.specs.declared.opened.OpenSegment.{OpenSegment}
use Rattle.pk_segment.specs.Documents.{HasDocuments}

-- the bytes have all documents of an open segment, unless it is of kind 2
abbrev pub IsRead : List ℕ → OpenSegment → Type 0
IsRead bytes o =
    (o.entry.kind ≡ 2 → ⊥) → HasDocuments (extent_bytes bytes o.entry.extent) o.segment

-- those of each
abbrev pub AreRead : List ℕ → List OpenSegment → Type 0
AreRead bytes opened = All (IsRead bytes) opened
