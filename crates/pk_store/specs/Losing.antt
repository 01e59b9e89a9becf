-- That a merge loses no document, whatever the bytes of the disk are.
use Rattle.std.specs.Prelude.{◌≤◌, ◌-◌, ℕ, List, length, Option, None, Some}
use Rattle.std.specs.List.{sum_by}
use Rattle.pk_open.specs.declared.opened.OpenSegment.{OpenSegment}
use Rattle.pk_layout.specs.declared.merging.NewSegment.{NewSegment}
use Rattle.pk_segment.specs.Opened.{count_of}

-- how many documents of an open segment its deletion list leaves, by what was read at its opening
abbrev pub committed_left : OpenSegment → ℕ
committed_left o = count_of o.segment - length o.dead

-- and the segment that a merge makes, if it makes one
abbrev pub merged_left : Option NewSegment → ℕ
merged_left None = 0
merged_left (Some new) = count_of new.segment

-- there are no fewer in all segments together
abbrev pub LosesNone : List OpenSegment → List OpenSegment → Type 0
LosesNone old new = sum_by committed_left old ≤ sum_by committed_left new
