-- Where a word's bytes may stand in a text, and which words lie between two places.
use Rattle.std.specs.Prelude.{◌≡◌, ◌⊎◌, [], ◌∷◌, ◌++◌, ℕ, ◌+◌, ◌<◌, ◌≤◌, Bool, false, not, ◌==◌, ◌&&◌, cond, List, map, length, get_or, slice_index, slice_range, bit_or}
use Rattle.std.specs.Char.{is_ascii_alphabetic, is_ascii_lowercase, to_ascii_lowercase}
use Rattle.pk_model.specs.Words.{folded}
use Rattle.pk_pieces.specs.Pieces.{joins_at, words_from}

-- the bit that tells a small letter of ASCII from the large one; no bit of any other byte
abbrev pub case_bit : ℕ → ℕ
case_bit byte = cond (is_ascii_lowercase byte) 32 0

-- with that bit set, `byte` is the one sought
abbrev pub shows : ℕ → ℕ → Bool
shows sought byte = bit_or byte (case_bit sought) == sought

-- the two bytes sought are shown at the place, and so far behind it
abbrev pub shows_pair : List ℕ → ℕ → ℕ → ℕ → ℕ → Bool
shows_pair bytes gap first last at =
    shows first (slice_index bytes at) && shows last (slice_index bytes (at + gap))

-- the word's bytes stand at the place, where letters of ASCII may be large
abbrev pub StandsAt : List ℕ → List ℕ → ℕ → Type 0
StandsAt bytes word at = map to_ascii_lowercase (slice_range bytes at (at + length word)) ≡ word

-- the byte is no letter of ASCII
abbrev pub is_no_letter : ℕ → Bool
is_no_letter byte = not (is_ascii_alphabetic byte)

-- the byte sought is shown at the place, and no letter behind it
abbrev pub shows_single : List ℕ → ℕ → ℕ → Bool
shows_single bytes sought at =
    shows sought (slice_index bytes at) && is_no_letter (slice_index bytes (at + 1))

-- what stands at the place, if anything does, is not joined to what stands before it
abbrev pub IsApart : List ℕ → ℕ → Type 0
IsApart bytes at = at < length bytes → joins_at bytes at ≡ false

-- it stands there, and what follows is not joined to it
pub record StandsApart (bytes word : List ℕ) (at : ℕ) : Type 0 where
  pub stands : StandsAt bytes word at
  pub apart : IsApart bytes (at + length word)

-- it does so neither at the one place nor behind it, before the other, where a piece begins
abbrev pub StandsNowhere : List ℕ → List ℕ → ℕ → ℕ → Type 0
StandsNowhere bytes word from to = (at : ℕ) → from ≤ at → at < to
    → (at ≡ from) ⊎ (joins_at bytes at ≡ false) → StandsApart bytes word at → ⊥

-- none of the pieces, folded, is the word
abbrev pub AreOthers : List ℕ → List (List ℕ) → Type 0
AreOthers word [] = Unit {0}
AreOthers word (piece ∷ pieces) = (folded piece ≡ word → ⊥) × AreOthers word pieces

-- from the one place to the other lie words of the text that are not this one
pub record PassesOthers (text word : List ℕ) (from to : ℕ) : Type 0 where
  pub passed : List (List ℕ)
  pub split : words_from text from ≡ passed ++ words_from text to
  pub others : AreOthers word passed

-- so many words lie between the two places
pub record HasWords (text : List ℕ) (count from to : ℕ) : Type 0 where
  pub end : ℕ
  pub low : from ≤ end
  pub high : end ≤ to
  pub many : length (words_from text from) ≡ count + length (words_from text end)

-- Each word from the one place to the other has so many words behind it, and the last of those is
-- not this one.
pub record PassesWithout (text word : List ℕ) (ahead from to : ℕ) : Type 0 where
  pub passed : List (List ℕ)
  pub split : words_from text from ≡ passed ++ words_from text to
  pub within : (i : ℕ) → i < length passed → i + ahead < length (words_from text from)
  pub others : (i : ℕ) → i < length passed
      → folded (get_or (words_from text from) (i + ahead) []) ≡ word → ⊥
