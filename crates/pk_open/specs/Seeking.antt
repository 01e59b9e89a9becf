-- Where the document of a number is sought, whatever the bytes are: in the open segment that reaches
-- over it.
use Rattle.std.specs.Prelude.{◌≡◌, ◌⊎◌, ◌≤◌, ◌<◌, ◌+◌, ◌*◌, ℕ, List, true, false, length, slice_index_or}
use Rattle.std.specs.Prelude.{All, Option, None, Some, Result, Ok, Err, String}
use Rattle.std.specs.declared.alloc.Global.{Global}
use Rattle.pk_open.specs.declared.opened.OpenSegment.{OpenSegment}
use Rattle.pk_open.specs.Showing.{Spans}
use Rattle.pk_posting.specs.declared.source.SourceFault.{SourceFault}
use Rattle.pk_posting.specs.declared.source.SourceFault.TheVariants as source
use Rattle.pk_posting.specs.declared.fault.ReadFault.{ReadFault}
use Rattle.pk_segment.specs.Opened.{count_of, texts_of}
use Rattle.pk_state.specs.Committed.{lists}

-- header, directory and texts of the segment lie in its entry's extent
abbrev pub IsWhole : OpenSegment → Type 0
IsWhole o = 24 + 12 * count_of o.segment + texts_of o.segment ≤ o.entry.extent.bytes

-- no open segment reaches over the number
abbrev pub IsUnreached : List OpenSegment → ℕ → Type 0
IsUnreached opened n = All (λ (o : OpenSegment). Spans o n → ⊥) opened

-- One reaches over it, and is such.
pub record IsReached (opened : List OpenSegment) (n : ℕ) (is : OpenSegment → Type 0) : Type 0 where
  pub place : ℕ
  pub within : place < length opened
  pub segment : OpenSegment
  pub segment_is : segment ≡ slice_index_or opened place segment
  pub spans : Spans segment n
  pub such : is segment

-- the number is deleted there, or the segment was looked through, which lies in its extent
abbrev pub IsPassed : ℕ → OpenSegment → Type 0
IsPassed n o = (lists n o.deleted ≡ true) ⊎ IsWhole o

-- it is not
abbrev pub IsLeft : ℕ → OpenSegment → Type 0
IsLeft n o = lists n o.deleted ≡ false

-- it is not, and the segment goes past its extent
abbrev pub IsCut : ℕ → OpenSegment → Type 0
IsCut n o = (lists n o.deleted ≡ false) × (IsWhole o → ⊥)

-- WHY NO DOCUMENT IS TOLD: the number is 0, no segment reaches over it, or it was passed in one
abbrev pub IsUnknown : List OpenSegment → ℕ → Type 0
IsUnknown opened n = (n ≡ 0) ⊎ IsUnreached opened n ⊎ IsReached opened n (IsPassed n)

-- what a look-up of a text says of that
abbrev pub SeeksText : List OpenSegment → ℕ → Result (Option (String Global)) ReadFault → Type 0
SeeksText opened n (Ok None) = IsUnknown opened n
SeeksText opened n (Ok (Some text)) = IsReached opened n (IsLeft n)
SeeksText opened n (Err fault) = IsReached opened n (IsLeft n)

-- and one of a place: it is damaged where a segment is cut, and nowhere else
abbrev pub SeeksPlace : List OpenSegment → ℕ → Result (Option ℕ) SourceFault → Type 0
SeeksPlace opened n (Ok None) = IsUnknown opened n
SeeksPlace opened n (Ok (Some place)) = IsReached opened n (IsLeft n)
SeeksPlace opened n (Err source.Damaged) = IsReached opened n (IsCut n)
SeeksPlace opened n (Err source.Disk) = IsReached opened n (IsLeft n)
