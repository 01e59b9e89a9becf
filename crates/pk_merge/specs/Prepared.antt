-- A merge that is prepared.
use Rattle.std.specs.Prelude.{◌≡◌, ◌≤◌, ◌+◌, ◌*◌, ℕ, List, [], ◌++◌, All, Option, Some, None, Result, Ok, Err}
use Rattle.pk_model.specs.Limits.{max_segment_bytes}
use Rattle.pk_join.specs.declared.input.MergeInput.{MergeInput}
use Rattle.pk_join.specs.Inputs.{LiesInside}
use Rattle.pk_merge.specs.declared.fault.MergeFault.{MergeFault}
use Rattle.pk_merge.specs.declared.prepared.Prepared.{Prepared}
use Rattle.pk_merge.specs.Keeping.{AreKept, StayApart}
use Rattle.pk_merge.specs.Lists.{AreOfInputs, GiveLists}
use Rattle.pk_merge.specs.Merging.{MergeFails}
use Rattle.pk_merge.specs.Output.{LiesApart}
use Rattle.pk_model.specs.Collection.{Doc}
use Rattle.pk_segment.specs.Indexed.{dictionary}
use Rattle.pk_segment.specs.declared.segment.Segment.{Segment}
use Rattle.pk_segment.specs.Placed.{IsIndexedOf}
use Rattle.pk_segment.specs.Spelling.{AreDocuments, directory, header_in, segment_length}
use Rattle.pk_state.specs.Committed.{Stored, live_in}

-- What is prepared is the merge of these inputs, on a disk of these bytes.
pub record IsPrepared (bytes : List ℕ) (inputs : List MergeInput) (stored : List Stored)
    (p : Prepared) : Type 0 where
  pub are : AreDocuments (live_in stored)
  pub kept : AreKept bytes p.documents.items (live_in stored)
  pub lists_are : GiveLists inputs stored p.lists
  pub dictionary_is : p.dictionary.items ≡ dictionary (live_in stored)
  pub front_is : p.front.items ≡ header_in (live_in stored) 2 ++ directory 0 (live_in stored)
  pub size_is : p.size ≡ segment_length (live_in stored) 2
  pub fits : p.size ≤ max_segment_bytes

-- the open segment of these documents, with the place of their dictionary
abbrev pub OpensAsMerged : List Doc → Option Segment → Type 0
OpensAsMerged docs None = ⊥
OpensAsMerged docs (Some s) = IsIndexedOf s docs

-- the merge is prepared, or it fails
abbrev pub PreparesOneAs : List ℕ → List MergeInput → List Stored → Result Prepared MergeFault
    → Type 0
PreparesOneAs bytes inputs stored (Ok p) = IsPrepared bytes inputs stored p
PreparesOneAs bytes inputs stored (Err fault) = MergeFails (live_in stored) 2 fault

-- the merge is prepared, none exactly where no document is left; or it fails
abbrev pub PreparesAs : List ℕ → List MergeInput → List Stored
    → Result (Option Prepared) MergeFault → Type 0
PreparesAs bytes inputs stored (Ok None) = live_in stored ≡ []
PreparesAs bytes inputs stored (Ok (Some p)) = IsPrepared bytes inputs stored p
PreparesAs bytes inputs stored (Err fault) = MergeFails (live_in stored) 2 fault

-- a merge that is prepared is one of these inputs, on a disk of so many bytes, and the texts that
-- it keeps stay apart from what is apart from the inputs
abbrev pub IsReady : ℕ → List MergeInput → Result (Option Prepared) MergeFault → Type 0
IsReady bytes inputs (Ok None) = Unit {0}
IsReady bytes inputs (Ok (Some p)) =
    (p.disk_bytes ≡ bytes) × AreOfInputs inputs p.lists × StayApart inputs p.documents.items
IsReady bytes inputs (Err fault) = Unit {0}

-- What is prepared can be written from a unit on, on a disk of so many bytes: it was prepared there
-- from these inputs, which lie apart from its place.
pub record CanMerge (bytes first : ℕ) (inputs : List MergeInput) (p : Prepared) : Type 0 where
  pub ready : IsReady bytes inputs (Ok (Some p))
  pub inside : All (LiesInside bytes) inputs
  pub fits : 512 * first + p.size ≤ bytes
  pub apart : All (LiesApart (512 * first) (512 * first + p.size)) inputs

-- what is prepared, of some inputs, can be written from a unit on
abbrev pub CanWrite : ℕ → ℕ → Prepared → Type 0
CanWrite bytes first p = (inputs : List MergeInput) × CanMerge bytes first inputs p
