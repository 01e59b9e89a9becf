-- That a merge passes over no word whose list is none, or goes past its segment, whatever the bytes
-- are.
use Rattle.std.specs.Prelude.{◌≡◌, ◌<◌, ℕ, List, All}
use Rattle.std.specs.List.{sum_by}
use Rattle.pk_disk.specs.Units.{extent_bytes}
use Rattle.pk_join.specs.declared.input.MergeInput.{MergeInput}
use Rattle.pk_join.specs.WholeLists.{ListsAreWhole}
use Rattle.pk_manifest.specs.declared.manifest.Part.{Part as Entry}
use Rattle.pk_merge.specs.Said.{NamesWhole}
use Rattle.pk_open.specs.declared.opened.OpenSegment.{OpenSegment}
use Rattle.pk_store.specs.Losing.{committed_left}

-- the lists that the segment of an entry names, where it is of kind 2, are whole in the extent
abbrev pub EntryWithin : List ℕ → Entry → Type 0
EntryWithin bytes e = e.kind ≡ 2 → ListsAreWhole (extent_bytes bytes e.extent)

-- so it is of each of these entries, where their open segments leave a document
abbrev pub AreWithin : List ℕ → List Entry → List OpenSegment → Type 0
AreWithin bytes entries opened =
    0 < sum_by committed_left opened → All (EntryWithin bytes) entries

-- the same of the inputs that a merge of them has
abbrev pub InputsWithin : List ℕ → List MergeInput → List OpenSegment → Type 0
InputsWithin bytes inputs opened =
    0 < sum_by committed_left opened → All (NamesWhole bytes) inputs
