-- That the posting lists which the bytes of a segment name are lists, whatever the bytes are.
use Rattle.std.specs.Prelude.{◌≡◌, ◌+◌, ℕ, List, length, Ok}
use Rattle.std.specs.List.{AllByRecursion}
use Rattle.pk_dict.specs.Dictionary.{Item}
use Rattle.pk_dict.specs.Said.{words_of}
use Rattle.pk_posting.specs.Parts.{bytes_at}
use Rattle.pk_posting.specs.Posting.{Spells}
use Rattle.pk_posting.specs.declared.fields.ListPlace.{ListPlace}
use Rattle.pk_segment.specs.Said.{EndsWithin, dictionary_said, lists_said}

-- the bytes at a place spell a list
abbrev pub HasListAt : List ℕ → ListPlace → Type 0
HasListAt bytes place = (xs : List ℕ) × Spells (bytes_at bytes place) xs

-- a place among lists that begin at another one
abbrev pub behind : ℕ → ListPlace → ListPlace
behind lists place = record { at = lists + place.at; bytes = place.bytes }

-- so do those of an item's posting list
abbrev pub HasListOf : List ℕ → Item → Type 0
HasListOf bytes i = HasListAt bytes (behind (lists_said bytes) i.entry.place)

-- THE LISTS ARE WHOLE: the dictionary says all of its words, one after another from the first on,
-- each greater than the one before; and the list of each lies within the bytes, which spell one
-- there.
pub record ListsAreWhole (bytes : List ℕ) : Type 0 where
  pub items : List Item
  pub said : words_of bytes (dictionary_said (lists_said bytes) bytes) ≡ Ok items
  pub within : AllByRecursion (EndsWithin (lists_said bytes) (length bytes)) items
  pub lists : AllByRecursion (HasListOf bytes) items
