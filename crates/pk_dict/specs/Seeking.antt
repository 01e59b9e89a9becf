-- What a search for a word passed, as any bytes say it.
use Rattle.std.specs.Prelude.{◌≡◌, ◌<◌, ◌+◌, ◌*◌, ◌++◌, ℕ, zero, suc, List, [], ◌∷◌, length, Bool, true, false, Option, None, Result, Ok, IfSome, nat_eq}
use Rattle.std.specs.List.{AllByRecursion, starts_with}
use Rattle.pk_posting.specs.declared.source.SourceFault.{SourceFault}
use Rattle.pk_dict.specs.declared.cursor.TermCursor.{TermCursor}
use Rattle.pk_dict.specs.declared.entry.Entry.{Entry}
use Rattle.pk_dict.specs.declared.head.Standing.{Standing}
use Rattle.pk_dict.specs.Cursor.{HasRead, IsBelow, item_at, words_left}
use Rattle.pk_dict.specs.Dictionary.{Item, group_count}
use Rattle.pk_dict.specs.Entries.{group_of, start_at}
use Rattle.pk_dict.specs.Lists.{last_of}
use Rattle.pk_dict.specs.LookUp.{IsToldAt}
use Rattle.pk_dict.specs.Order.{less}
use Rattle.pk_dict.specs.Reading.{◌>>=◌}
use Rattle.pk_dict.specs.Words.{word_at}

-- the first n words from the start of a group on, each with what is said of it, and the place after
-- them: the group's first word has an index and a place
unfoldable pub words_from : List ℕ → ℕ → ℕ → ℕ → Result (List Item × ℕ) SourceFault
words_from bytes i at zero = Ok ([], at)
words_from bytes i at (suc n) = do
  r ← words_from bytes i at n
  t ← word_at bytes (i + n) (last_of [] r.0) r.1
  Ok (r.0 ++ record { term = t.0; entry = t.1 } ∷ [], t.2)

-- a group begins at a place, and as first terms of groups say it, a word is sought from there on
pub record IsToldStart (bytes : List ℕ) (terms : ℕ) (word : List ℕ) (group at : ℕ) : Type 0 where
  pub standing : Standing
  pub told : IsToldAt bytes terms word standing
  pub is : group ≡ group_of standing
  pub starts : start_at bytes (4 * group_count terms) group ≡ Ok at

-- a cursor read these words in turn, from the start of a group on
pub record HasPassed (bytes : List ℕ) (c : TermCursor) (group at : ℕ) (es : List Item)
    : Type 0 where
  pub read : c.read ≡ 16 * group + length es
  pub said : words_from bytes (16 * group) at (length es) ≡ Ok (es, c.at)

-- it read words in turn, and then one that is not less than another word, or there is none more
abbrev pub StopsBehind : List ℕ → TermCursor → List ℕ → ℕ → ℕ → List Item → Bool → Type 0
StopsBehind bytes c word group at es true =
    HasPassed bytes c group at (es ++ item_at c ∷ []) × (less c.word.items word ≡ false)
StopsBehind bytes c word group at es false = HasPassed bytes c group at es × (words_left c ≡ 0)

-- A search for the first word that is not less than another left out none: it began where first
-- terms of groups say it, if there is a group, and each word that it passed over is less.
pub record HasSought (bytes : List ℕ) (c : TermCursor) (word : List ℕ) (more : Bool)
    : Type 0 where
  pub group : ℕ
  pub at : ℕ
  pub start : 0 < c.place.terms → IsToldStart bytes c.place.terms word group at
  pub passed : List Item
  pub below : AllByRecursion (IsBelow word) passed
  pub stops : StopsBehind bytes c word group at passed more

-- a cursor passed the word that came next, or there was none
abbrev pub PassesNext : List ℕ → TermCursor → TermCursor → Bool → Type 0
PassesNext bytes old new true = HasRead bytes old new × (new.read ≡ old.read + 1)
PassesNext bytes old new false = words_left old ≡ 0

-- a cursor went on by a word once it had begun, and first it sought another word
abbrev pub HasMoved : Bool → List ℕ → List ℕ → TermCursor → TermCursor → Bool → Type 0
HasMoved true bytes word old new more = PassesNext bytes old new more
HasMoved false bytes word old new more = HasSought bytes new word more

-- A cursor over a prefix moved so, and an entry is given; or none, where there is no word more, or
-- the word does not begin with the prefix.
pub record GivesAfter (begun : Bool) (bytes prefix : List ℕ) (old new : TermCursor)
    (given : Option Entry) : Type 0 where
  pub more : Bool
  pub moved : HasMoved begun bytes prefix old new more
  pub some : IfSome given (λ _. more ≡ true)
  pub none : given ≡ None → more ≡ true → starts_with nat_eq new.word.items prefix ≡ false
