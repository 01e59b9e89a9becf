-- What the bytes of a segment say of its texts, whatever they are.
use Rattle.std.specs.Prelude.{◌≡◌, ◌<◌, ℕ, List, length, IsUtf8}
use Rattle.pk_segment.specs.declared.directory.Entry.{Entry}
use Rattle.pk_segment.specs.declared.segment.Segment.{Segment}
use Rattle.pk_segment.specs.Fields.{IsEntry, entry_field, number_at, text_in}
use Rattle.pk_segment.specs.Opened.{count_of}

-- the entry is one of the directory's, and has the number
abbrev pub EntrySaid : List ℕ → Segment → ℕ → Entry → Type 0
EntrySaid bytes s number e =
    (place : ℕ) × (place < count_of s) × (number ≡ e.number) × IsEntry (entry_field bytes place) e

-- THE TEXT OF A NUMBER: the one to which an entry of the directory leads that has the number. It is
-- as long as the entry says, and UTF-8.
pub record TextSaid (bytes : List ℕ) (s : Segment) (number : ℕ) (text : List ℕ) : Type 0 where
  pub place : ℕ
  pub within : place < count_of s
  pub number_is : number ≡ number_at 0 (entry_field bytes place)
  pub text_is : text ≡ text_in bytes (count_of s) (entry_field bytes place)
  pub long : length text ≡ number_at 8 (entry_field bytes place)
  pub utf8 : IsUtf8 text
