-- The words of a dictionary from the first on, as any bytes say them.
use Rattle.std.specs.Prelude.{◌≡◌, ◌+◌, ◌*◌, ◌++◌, ℕ, zero, suc, List, [], ◌∷◌, length, Bool, true, false, None, Result, Ok, Err, nat_lt, if◌then◌else◌, ◌≤◌, vec_capacity}
use Rattle.pk_posting.specs.declared.source.SourceFault.{SourceFault}
use Rattle.pk_posting.specs.declared.source.SourceFault.TheVariants as faults
use Rattle.pk_dict.specs.declared.cursor.TermCursor.{TermCursor}
use Rattle.pk_dict.specs.declared.entry.DictPlace.{DictPlace}
use Rattle.pk_dict.specs.declared.entry.Entry.{Entry}
use Rattle.pk_dict.specs.Cursor.{HoldsOf}
use Rattle.pk_dict.specs.Dictionary.{Item, group_count}
use Rattle.pk_dict.specs.Place.{bytes_at}
use Rattle.pk_dict.specs.Reading.{◌>>=◌}
use Rattle.pk_dict.specs.Words.{word_at}

-- what is said of no word
abbrev pub no_entry : Entry
no_entry = record { frequency = 0; place = record { at = 0; bytes = 0 } }

-- the nth word of a dictionary of so many groups, the first being 1, with what is said of it and
-- the place after it; 0 is before the first, at the place where that one stands
unfoldable pub nth_word : List ℕ → ℕ → ℕ → Result (List ℕ × Entry × ℕ) SourceFault
nth_word bytes groups zero = Ok ([], no_entry, 4 * groups)
nth_word bytes groups (suc n) = nth_word bytes groups n >>= λ t. word_at bytes n t.0 t.2

-- the first n words, each with what is said of it
unfoldable pub first_words : List ℕ → ℕ → ℕ → Result (List Item) SourceFault
first_words bytes groups zero = Ok []
first_words bytes groups (suc n) = do
  es ← first_words bytes groups n
  t ← nth_word bytes groups (suc n)
  Ok (es ++ record { term = t.0; entry = t.1 } ∷ [])

-- all words of the dictionary that lies at a place of these bytes; one that goes past their end is
-- damaged
unfoldable pub words_of : List ℕ → DictPlace → Result (List Item) SourceFault
words_of content place =
    if nat_lt (length content) (place.at + place.bytes) then Err faults.Damaged
    else first_words (bytes_at content place) (group_count place.terms) place.terms

-- A cursor stands before the first word, and holds nothing.
pub record IsFirst (c : TermCursor) : Type 0 where
  pub read : c.read ≡ 0
  pub at : c.at ≡ 4 * group_count c.place.terms
  pub word : c.word.items ≡ []
  pub entry : c.entry ≡ no_entry
  pub from : c.held.from ≡ 0
  pub none : length c.held.bytes.items ≡ 0
  pub sound : c.fault ≡ None

-- What a cursor has is what the bytes say: its word, of those that it passed the last, with what is
-- said of it, and what it read ahead. There is room for the longest word that it passed.
pub record IsSaid (bytes : List ℕ) (c : TermCursor) : Type 0 where
  pub said : nth_word bytes (group_count c.place.terms) c.read ≡ Ok (c.word.items, c.entry, c.at)
  pub holds : HoldsOf bytes c
  pub sound : c.fault ≡ None
  pub room : (n : ℕ) (t : List ℕ × Entry × ℕ) → n ≤ c.read
      → nth_word bytes (group_count c.place.terms) n ≡ Ok t → length t.0 ≤ vec_capacity c.word

-- it passed one word more; or there is none, and it is as it was
abbrev pub GoesOn : TermCursor → TermCursor → Bool → Type 0
GoesOn old new true = new.read ≡ old.read + 1
GoesOn old new false = (new ≡ old) × (old.read ≡ old.place.terms)
