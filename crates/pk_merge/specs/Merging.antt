-- What the inputs of a merge spell, and what a merge answers.
use Rattle.std.specs.Prelude.{◌≡◌, ◌≤◌, ◌<◌, ℕ, List, [], Option, None, Some, Result, Ok, Err, OnOk, IsErrOf}
use Rattle.std.specs.Global.{Vec}
use Rattle.pk_model.specs.Limits.{max_segment_bytes}
use Rattle.pk_merge.specs.declared.fault.MergeFault.{MergeFault}
use Rattle.pk_merge.specs.declared.fault.MergeFault.TheVariants.{TooLarge, Damaged, Disk, Memory, NotWritten}
use Rattle.pk_model.specs.Collection.{Doc}
use Rattle.pk_posting.specs.Source.{Rose}
use Rattle.pk_replace.specs.declared.stream.StreamFault.{StreamFault}
use Rattle.pk_replace.specs.declared.stream.StreamFault.TheVariants as streaming
use Rattle.pk_segment.specs.declared.building.BuildFault.{BuildFault}
use Rattle.pk_segment.specs.declared.building.BuildFault.TheVariants as building
use Rattle.pk_posting.specs.declared.fault.ReadFault.{ReadFault}
use Rattle.pk_posting.specs.declared.fault.ReadFault.TheVariants as reading
use Rattle.pk_segment.specs.Spelling.{SegmentSpells, segment_length}

-- what a fault of a reader means to a merge
abbrev pub merge_of : ReadFault → MergeFault
merge_of reading.Damaged = Damaged
merge_of reading.Disk = Disk
merge_of reading.Memory = Memory

-- what a fault of building means to a merge
abbrev pub built_of : BuildFault → MergeFault
built_of building.TooLarge = TooLarge
built_of building.Memory = Memory

-- what a fault of a writer means to a merge
abbrev pub streamed_of : StreamFault → MergeFault
streamed_of streaming.Read = Disk
streamed_of streaming.Write = NotWritten
streamed_of streaming.Damaged = Damaged

-- the segment of a kind of the documents; none exactly where there is none
abbrev pub IsMerged : List Doc → ℕ → Option (Vec ℕ) → Type 0
IsMerged docs kind None = docs ≡ []
IsMerged docs kind (Some bytes) = SegmentSpells bytes.items docs kind

-- too large is what passes the longest segment, and the device and memory may fail
abbrev pub MergeFails : List Doc → ℕ → MergeFault → Type 0
MergeFails docs kind TooLarge = max_segment_bytes < segment_length docs kind
MergeFails docs kind Damaged = ⊥
MergeFails docs kind Disk = Unit {0}
MergeFails docs kind Memory = Unit {0}
MergeFails docs kind NotWritten = ⊥

-- the segment of a kind of the documents, or why there is none
abbrev pub MergedAs : List Doc → ℕ → Result (Option (Vec ℕ)) MergeFault → Type 0
MergedAs docs kind (Ok bytes) = IsMerged docs kind bytes
MergedAs docs kind (Err fault) = MergeFails docs kind fault

-- it is the segment of a kind of some documents, or none
abbrev pub IsSomeMerged : ℕ → Option (Vec ℕ) → Type 0
IsSomeMerged kind bytes = (docs : List Doc) × IsMerged docs kind bytes

-- Disk is answered exactly where the count of failures rose; with any other answer it is as before.
-- Nothing is written.
pub record CountsMerge {T : Type 0} (before now : ℕ) (result : Result T MergeFault) : Type 0 where
  pub later : before ≤ now
  pub ok : OnOk result (now ≡ before)
  pub too_large : IsErrOf result TooLarge → now ≡ before
  pub damaged : IsErrOf result Damaged → now ≡ before
  pub memory : IsErrOf result Memory → now ≡ before
  pub disk : IsErrOf result Disk → Rose before now
  pub unwritten : IsErrOf result NotWritten → ⊥
