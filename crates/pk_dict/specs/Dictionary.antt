-- What the bytes of a dictionary are, and what a dictionary says of a term.
use Rattle.std.specs.Prelude.{◌≡◌, ◌<◌, ◌+◌, ◌-◌, ◌*◌, ◌/◌, ◌%◌, ◌^◌, ◌==◌, ℕ, zero, suc, List, [], ◌∷◌, ◌++◌, length, take, drop, map, Option, Some, None, nat_eq, if◌then◌else◌}
use Rattle.std.specs.Int.{w32, to_le_bytes}
use Rattle.std.specs.List.{AllByRecursion, filter, starts_with}
use Rattle.std.specs.List.Sorted.{IsStrictlySortedBy}
use Rattle.std.specs.Cmp.Lexicographic.{slice_cmp}
use Rattle.std.specs.Ordering.{nat_cmp}
use Rattle.std.specs.Str.{bytes_eq}
use Rattle.pk_vbyte.specs.VariableByte.{vbyte}
use Rattle.pk_posting.specs.declared.fields.ListPlace.{ListPlace}
use Rattle.pk_dict.specs.declared.entry.Entry.{Entry}

-- a term and what is said of it
pub record Item : Type 0 where
  pub term : List ℕ
  pub entry : Entry

-- the item of a term, its frequency and the place of its list
abbrev pub item_of : List ℕ → ℕ → ListPlace → Item
item_of term frequency place =
    record { term = term; entry = record { frequency = frequency; place = place } }

-- the terms alone
abbrev pub terms_of : List Item → List (List ℕ)
terms_of es = map (λ (e : Item). e.term) es

-- each term is less than the later ones, by its bytes
abbrev pub IsRising : List Item → Type 0
IsRising es = IsStrictlySortedBy (slice_cmp nat_cmp) (terms_of es)

-- the numbers of an item are below 2^32
pub record Fits (e : Item) : Type 0 where
  pub term : length e.term < 2 ^ 32
  pub frequency : e.entry.frequency < 2 ^ 32
  pub at : e.entry.place.at < 2 ^ 32
  pub bytes : e.entry.place.bytes < 2 ^ 32

-- how many bytes two terms share at their fronts
abbrev pub shared : List ℕ → List ℕ → ℕ
shared [] ys = 0
shared (x ∷ xs) [] = 0
shared (x ∷ xs) (y ∷ ys) = if nat_eq x y then suc (shared xs ys) else 0

-- the three numbers after a term: its frequency, the place of its list, the bytes of its list
unfoldable pub numbers : Entry → List ℕ
numbers e = vbyte e.frequency ++ (vbyte e.place.at ++ vbyte e.place.bytes)

-- a term after the bytes that it shares with the one before: the length of the rest, the rest, the
-- numbers
unfoldable pub rest_of : List ℕ → Item → List ℕ
rest_of before e =
    vbyte (length e.term - shared before e.term)
    ++ (drop (shared before e.term) e.term ++ numbers e.entry)

-- the term of index i: each sixteenth begins a group and stands whole, any other says first how
-- much it shares
unfoldable pub spelled_item : ℕ → List ℕ → Item → List ℕ
spelled_item i before e =
    if i % 16 == 0 then rest_of [] e else vbyte (shared before e.term) ++ rest_of before e

-- the terms from index i on, after the term before
abbrev pub spelled_items : ℕ → List ℕ → List Item → List ℕ
spelled_items i before [] = []
spelled_items i before (e ∷ es) = spelled_item i before e ++ spelled_items (i + 1) e.term es

-- all groups
unfoldable pub groups : List Item → List ℕ
groups es = spelled_items 0 [] es

-- the first n offsets: each of a group, counted from the start of the first
abbrev pub offsets : List Item → ℕ → List ℕ
offsets es zero = []
offsets es (suc n) = offsets es n ++ to_le_bytes w32 (length (groups (take (16 * n) es)))

-- how many groups so many terms make
abbrev pub group_count : ℕ → ℕ
group_count n = (n + 15) / 16

-- the offsets of the groups, then the groups
unfoldable pub spelling : List Item → List ℕ
spelling es = offsets es (group_count (length es)) ++ groups es

-- the bytes are a dictionary of these items
pub record DictSpells (bytes : List ℕ) (es : List Item) : Type 0 where
  pub rising : IsRising es
  pub fits : AllByRecursion Fits es
  pub size : length bytes < 2 ^ 32
  pub same : bytes ≡ spelling es

-- what is said of a term
abbrev pub entry_of : List Item → List ℕ → Option Entry
entry_of [] term = None
entry_of (e ∷ es) term = if bytes_eq e.term term then Some e.entry else entry_of es term

-- the items whose terms begin with a prefix, in their order
abbrev pub items_with_prefix : List ℕ → List Item → List Item
items_with_prefix prefix es = filter (λ (e : Item). starts_with nat_eq e.term prefix) es
