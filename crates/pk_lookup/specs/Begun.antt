-- The words of a dictionary that begin with a prefix, as any bytes say them, and their lists united.
use Rattle.std.specs.Prelude.{◌≡◌, ◌<◌, ◌+◌, ◌*◌, ◌++◌, ℕ, List, [], ◌∷◌, length, true, false, Ok, nat_eq}
use Rattle.std.specs.List.{AllByRecursion, starts_with}
use Rattle.pk_dict.specs.Cursor.{IsBelow}
use Rattle.pk_dict.specs.Dictionary.{Item}
use Rattle.pk_dict.specs.Place.{bytes_at}
use Rattle.pk_dict.specs.Seeking.{IsToldStart, words_from}
use Rattle.pk_lookup.specs.Lies.{IsUnited}
use Rattle.pk_segment.specs.declared.segment.Segment.{Segment}
use Rattle.pk_segment.specs.Placed.{dictionary_of}

-- a word begins with a prefix
abbrev pub Begins : List ℕ → Item → Type 0
Begins prefix e = starts_with nat_eq e.term prefix ≡ true

-- behind so many words of a dictionary there is none more, or the next one does not begin so
abbrev pub EndsAt : List ℕ → ℕ → ℕ → List Item → Type 0
EndsAt prefix terms read [] = read ≡ terms
EndsAt prefix terms read (e ∷ es) = starts_with nat_eq e.term prefix ≡ false

-- These are the words that begin with a prefix: read in turn with those before them, which are less,
-- from where first terms of groups say that the prefix is sought, up to the first that does not.
pub record AreBegun (bytes : List ℕ) (terms : ℕ) (prefix : List ℕ) (es : List Item) : Type 0 where
  pub group : ℕ
  pub at : ℕ
  pub start : 0 < terms → IsToldStart bytes terms prefix group at
  pub before : List Item
  pub below : AllByRecursion (IsBelow prefix) before
  pub begin : AllByRecursion (Begins prefix) es
  pub behind : List Item
  pub end : ℕ
  pub said : words_from bytes (16 * group) at (length ((before ++ es) ++ behind))
      ≡ Ok ((before ++ es) ++ behind, end)
  pub stops : EndsAt prefix terms (16 * group + length (before ++ es)) behind

-- the lists that the entries of words lead to were read, and united with others one by one
abbrev pub AreUnited : Segment → ℕ → List Item → List ℕ → List ℕ → Type 0
AreUnited segment size [] old new = new ≡ old
AreUnited segment size (e ∷ es) old new =
    (mid : List ℕ) × IsUnited segment e.entry size old mid × AreUnited segment size es mid new

-- THE LISTS OF ALL WORDS that begin with a prefix, as a segment's dictionary says, were united.
pub record HasUnited (content : List ℕ) (segment : Segment) (prefix numbers : List ℕ)
    : Type 0 where
  pub words : List Item
  pub are : AreBegun (bytes_at content (dictionary_of segment)) (dictionary_of segment).terms prefix
      words
  pub united : AreUnited segment (length content) words [] numbers
