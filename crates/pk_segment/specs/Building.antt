-- What building a segment answers.
use Rattle.std.specs.Prelude.{◌≡◌, ℕ, ◌≤◌, ◌<◌, List, Result, Ok, Err}
use Rattle.std.specs.Global.{Vec}
use Rattle.pk_model.specs.Collection.{Doc}
use Rattle.pk_model.specs.Limits.{max_segment_bytes}
use Rattle.pk_segment.specs.declared.building.BuildFault.{BuildFault}
use Rattle.pk_segment.specs.declared.building.BuildFault.TheVariants.{TooLarge, Memory}
use Rattle.pk_segment.specs.Spelling.{segment_length, SegmentSpells}

-- too large is what passes the longest segment, and memory may be refused
abbrev pub BuildFails : List Doc → ℕ → BuildFault → Type 0
BuildFails docs kind TooLarge = max_segment_bytes < segment_length docs kind
BuildFails docs kind Memory = Unit {0}

-- the bytes that spell the documents, or why there are none
abbrev pub BuiltAs : List Doc → ℕ → Result (Vec ℕ) BuildFault → Type 0
BuiltAs docs kind (Ok bytes) = SegmentSpells bytes.items docs kind
BuiltAs docs kind (Err fault) = BuildFails docs kind fault

-- the length of those bytes, or why there are none
abbrev pub SizedAs : List Doc → ℕ → Result ℕ BuildFault → Type 0
SizedAs docs kind (Ok size) = (size ≡ segment_length docs kind) × (size ≤ max_segment_bytes)
SizedAs docs kind (Err fault) = BuildFails docs kind fault
