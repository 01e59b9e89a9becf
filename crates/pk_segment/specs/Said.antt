-- What the bytes of a segment of kind 2 say of its words, whatever they are.
use Rattle.std.specs.Prelude.{◌≡◌, ◌≤◌, ◌+◌, ◌*◌, ℕ, List, [], length, Result, Ok}
use Rattle.std.specs.List.{AllByRecursion}
use Rattle.pk_dict.specs.declared.entry.DictPlace.{DictPlace}
use Rattle.pk_dict.specs.Dictionary.{Item}
use Rattle.pk_dict.specs.Entries.{entries_of}
use Rattle.pk_posting.specs.declared.source.SourceFault.{SourceFault}
use Rattle.pk_segment.specs.declared.segment.Segment.{Segment}
use Rattle.pk_segment.specs.Fields.{header_field, number_at}
use Rattle.pk_segment.specs.Opened.{count_of, texts_of}

-- where the posting lists begin, by the header
abbrev pub lists_said : List ℕ → ℕ
lists_said bytes = 24 + 12 * number_at 4 (header_field bytes) + number_at 8 (header_field bytes)

-- where they begin in an open segment
abbrev pub lists_from : Segment → ℕ
lists_from s = 24 + 12 * count_of s + texts_of s

-- where the dictionary lies, by the header: behind the posting lists, which begin at a place
abbrev pub dictionary_said : ℕ → List ℕ → DictPlace
dictionary_said lists bytes = record {
  at = lists + number_at 12 (header_field bytes);
  bytes = number_at 16 (header_field bytes);
  terms = number_at 20 (header_field bytes);
}

-- the words there that begin with a prefix, each with its entry, or damage
abbrev pub entries_said : ℕ → List ℕ → List ℕ → Result (List Item) SourceFault
entries_said lists bytes prefix = entries_of bytes (dictionary_said lists bytes) prefix

-- an item's posting list, counted from where all begin, ends within so many bytes
abbrev pub EndsWithin : ℕ → ℕ → Item → Type 0
EndsWithin lists size e = lists + e.entry.place.at + e.entry.place.bytes ≤ size

-- THE LISTS LIE WITHIN: the dictionary says all of its words, and the list of each lies within the
-- bytes.
pub record ListsLieWithin (bytes : List ℕ) : Type 0 where
  pub items : List Item
  pub said : entries_said (lists_said bytes) bytes [] ≡ Ok items
  pub within : AllByRecursion (EndsWithin (lists_said bytes) (length bytes)) items
