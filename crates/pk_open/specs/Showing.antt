-- What a look-up over open segments answers.
use Rattle.std.specs.Prelude.{◌≡◌, ◌≤◌, List, ℕ, true, false, string_bytes, String}
use Rattle.std.specs.Prelude.{Result, Ok}
use Rattle.std.specs.Prelude.{Err, Option, Some, None}
use Rattle.std.specs.declared.alloc.Global.{Global}
use Rattle.pk_model.specs.Collection.{Doc, is_live}
use Rattle.pk_model.specs.Steps.{text_of}
use Rattle.pk_posting.specs.declared.fault.ReadFault.{ReadFault}
use Rattle.pk_segment.specs.Opened.{first_of, last_of}
use Rattle.pk_segment.specs.Reading.{IsNoDamage}
use Rattle.pk_open.specs.declared.opened.OpenSegment.{OpenSegment}
use Rattle.pk_open.specs.Opened.{documents_at, present}
use Rattle.pk_segment.specs.Reading.{read_of}
use Rattle.pk_posting.specs.declared.source.SourceFault.{SourceFault}
use Rattle.pk_state.specs.Committed.{Stored, live_in}

-- the text of the document of a number, none exactly where none has it, or a failure
abbrev pub LooksUpAs : List Doc → ℕ → Result (Option (String Global)) ReadFault → Type 0
LooksUpAs docs n (Ok None) = is_live n docs ≡ false
LooksUpAs docs n (Ok (Some t)) = (is_live n docs ≡ true) × (text_of n docs ≡ string_bytes t)
LooksUpAs docs n (Err fault) = IsNoDamage fault

-- the number lies between the segment's first and its last
abbrev pub Spans : OpenSegment → ℕ → Type 0
Spans o n = (first_of o.segment ≤ n) × (n ≤ last_of o.segment)

-- the place of the open segment that has the live document of a number, none exactly where none has
-- it, or a failure
abbrev pub LivesAt : List OpenSegment → List Stored → ℕ → Result (Option ℕ) SourceFault → Type 0
LivesAt opened stored n (Ok None) = is_live n (live_in (present opened stored)) ≡ false
LivesAt opened stored n (Ok (Some place)) =
    (is_live n (live_in (present opened stored)) ≡ true)
    × (is_live n (documents_at stored place) ≡ true)
LivesAt opened stored n (Err fault) = IsNoDamage (read_of fault)
