-- Where a cursor stands in a dictionary.
use Rattle.std.specs.Prelude.{◌≡◌, ◌≤◌, ◌<◌, ◌+◌, ◌-◌, ◌*◌, ◌%◌, ◌⊎◌, ℕ, List, [], ◌∷◌, length, take, drop, None, Bool, true, false, Result, Ok, Err}
use Rattle.std.specs.List.{AllByRecursion}
use Rattle.pk_posting.specs.declared.source.SourceFault.{SourceFault}
use Rattle.pk_posting.specs.declared.source.SourceFault.TheVariants.{Damaged}
use Rattle.pk_dict.specs.declared.cursor.TermCursor.{TermCursor}
use Rattle.pk_dict.specs.declared.entry.Entry.{Entry}
use Rattle.pk_dict.specs.Dictionary.{DictSpells, Item, spelled_items}
use Rattle.pk_dict.specs.Lists.{last_of}
use Rattle.pk_dict.specs.Order.{less}
use Rattle.pk_dict.specs.Reading.{IsPieceAt}
use Rattle.pk_dict.specs.Words.{word_at}

-- the word that a cursor read last, and its entry
abbrev pub item_at : TermCursor → Item
item_at c = record { term = c.word.items; entry = c.entry }

-- how many words it has not come to
abbrev pub words_left : TermCursor → ℕ
words_left c = c.place.terms - c.read

-- a cursor reads so many bytes ahead at once, and holds no more of them
abbrev pub ReadsAhead : ℕ → TermCursor → Type 0
ReadsAhead most c = (c.held.most ≡ most) × (length c.held.bytes.items ≤ most)

-- what a cursor holds is what the bytes have
abbrev pub HoldsOf : List ℕ → TermCursor → Type 0
HoldsOf bytes c = IsPieceAt bytes c.held.from c.held.bytes.items

-- the word that comes next, as any bytes have it: with what is said of it, and the place after it
abbrev pub word_after : List ℕ → TermCursor → Result (List ℕ × Entry × ℕ) SourceFault
word_after bytes c = word_at bytes c.read c.word.items c.at

-- the word that came next is the one that a cursor has passed now
abbrev pub HasRead : List ℕ → TermCursor → TermCursor → Type 0
HasRead bytes old new = word_after bytes old ≡ Ok (new.word.items, new.entry, new.at)

-- the bytes are damaged at the word that comes next
abbrev pub IsBroken : List ℕ → TermCursor → Type 0
IsBroken bytes c = word_after bytes c ≡ Err Damaged

-- the bytes spell these items, and a cursor comes to them from the nth on: it has the word before,
-- or none where a group begins
pub record Comes (bytes : List ℕ) (c : TermCursor) (es : List Item) (n : ℕ) : Type 0 where
  pub spells : DictSpells bytes es
  pub count : length es ≡ c.place.terms
  pub sound : c.fault ≡ None
  pub read : c.read ≡ n
  pub within : n ≤ length es
  pub place : c.at ≤ length bytes
  pub stands : drop c.at bytes ≡ spelled_items n (last_of [] (take n es)) (drop n es)
  pub before : (c.word.items ≡ last_of [] (take n es)) ⊎ ((n % 16 ≡ 0) × (c.word.items ≡ []))
  pub held : HoldsOf bytes c

-- a cursor passed the first n of these items: the last of them is its own, and those from the nth
-- on come next
pub record StandsAt (bytes : List ℕ) (c : TermCursor) (es : List Item) (n : ℕ) : Type 0 where
  pub comes : Comes bytes c es n
  pub here : 0 < n → drop (n - 1) es ≡ item_at c ∷ drop n es

-- a cursor that had passed n items passed one more, or there is none more
abbrev pub IsNext : List ℕ → TermCursor → List Item → ℕ → Bool → Type 0
IsNext bytes c es n true = (n < length es) × StandsAt bytes c es (n + 1)
IsNext bytes c es n false = (n ≡ length es) × StandsAt bytes c es n

-- an item's word is less than another word
abbrev pub IsBelow : List ℕ → Item → Type 0
IsBelow word e = less e.term word ≡ true

-- no item from an index on is less than a word
abbrev pub Beyond : List Item → List ℕ → ℕ → Type 0
Beyond es word i = (j : ℕ) (e : Item) (rest : List Item) → i ≤ j → drop j es ≡ e ∷ rest
    → less e.term word ≡ false

-- a group begins at a place, all words before it are less than another word, and none behind it
pub record BeginsAt (bytes : List ℕ) (es : List Item) (word : List ℕ) (group at : ℕ) : Type 0 where
  pub some : 16 * group < length es
  pub place : at ≤ length bytes
  pub stands : drop at bytes
      ≡ spelled_items (16 * group) (last_of [] (take (16 * group) es)) (drop (16 * group) es)
  pub below : AllByRecursion (IsBelow word) (take (16 * group) es)
  pub beyond : Beyond es word (16 * group + 16)

-- a cursor stands at the first of these words that is not less than another
pub record IsFound (bytes : List ℕ) (c : TermCursor) (es : List Item) (word : List ℕ) : Type 0 where
  pub passed : ℕ
  pub some : 0 < passed
  pub stands : StandsAt bytes c es passed
  pub below : AllByRecursion (IsBelow word) (take (passed - 1) es)
  pub reaches : less c.word.items word ≡ false

-- a cursor went to that word, or all are less, and it passed them
abbrev pub IsSought : List ℕ → TermCursor → List Item → List ℕ → Bool → Type 0
IsSought bytes c es word true = IsFound bytes c es word
IsSought bytes c es word false =
    StandsAt bytes c es (length es) × AllByRecursion (IsBelow word) es
