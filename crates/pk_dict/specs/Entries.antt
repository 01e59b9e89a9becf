-- A list of entries, and how making it counts failures.
use Rattle.std.specs.Prelude.{◌≡◌, ◌≤◌, ◌<◌, ◌+◌, ◌-◌, ◌*◌, ◌%◌, ℕ, zero, suc, List, [], ◌∷◌, ◌++◌, length, take, drop, map, Bool, not, ◌||◌, Result, Ok, Err, OnOk, IsErrOf, nat_lt, nat_eq, if◌then◌else◌}
use Rattle.std.specs.List.{starts_with}
use Rattle.std.specs.Global.{Vec}
use Rattle.pk_posting.specs.declared.fault.ReadFault.{ReadFault}
use Rattle.pk_posting.specs.declared.fault.ReadFault.TheVariants.{Damaged, Disk, Memory}
use Rattle.pk_posting.specs.declared.source.SourceFault.{SourceFault}
use Rattle.pk_posting.specs.Limits.{asks_for}
use Rattle.pk_posting.specs.declared.source.SourceFault.TheVariants as faults
use Rattle.pk_posting.specs.ReadFaults.{CountsReads}
use Rattle.pk_dict.specs.declared.entry.Entry.{Entry}
use Rattle.pk_dict.specs.declared.entry.DictPlace.{DictPlace}
use Rattle.pk_dict.specs.declared.head.Standing.{Standing}
use Rattle.pk_dict.specs.declared.head.Standing.TheVariants.{First, After}
use Rattle.pk_dict.specs.Dictionary.{Item, group_count, spelled_items, items_with_prefix}
use Rattle.pk_dict.specs.Lists.{last_of}
use Rattle.pk_dict.specs.LookUp.{standing_at}
use Rattle.pk_dict.specs.Order.{less}
use Rattle.pk_dict.specs.Place.{bytes_at}
use Rattle.pk_dict.specs.Reading.{◌>>=◌, number_at, head_at, offset_at}

-- the item of a term and its entry
abbrev pub item_from : Vec ℕ × Entry → Item
item_from p = record { term = p.0.items; entry = p.1 }

-- the items of a list of terms and entries
abbrev pub items_from : List (Vec ℕ × Entry) → List Item
items_from ps = map item_from ps

-- the term at a place, whole: the bytes that it keeps of the one before, then its rest; what is
-- said of it; the place after it
unfoldable pub term_at : List ℕ → Bool → List ℕ → ℕ → Result (List ℕ × Entry × ℕ) SourceFault
term_at bytes first before at = do
  s ← (if first then Ok (0, at) else number_at bytes at)
  h ← head_at bytes s.1
  if nat_lt (length before) s.0 then Err faults.Damaged
      else Ok (take s.0 before ++ take h.size (drop h.rest bytes), h.entry, h.next)

-- what a call returned and left as the term is what the bytes give, unless memory or what lies
-- below failed
abbrev pub TermGives : Result (Entry × ℕ) ReadFault → List ℕ
    → Result (List ℕ × Entry × ℕ) SourceFault → Type 0
TermGives (Ok r) term read = read ≡ Ok (term, r.0, r.1)
TermGives (Err Damaged) term read = read ≡ Err faults.Damaged
TermGives (Err Disk) term read = Unit {0}
TermGives (Err Memory) term read = Unit {0}

-- where a group begins: the groups begin at base
unfoldable pub start_at : List ℕ → ℕ → ℕ → Result ℕ SourceFault
start_at bytes base g = do
  o ← offset_at bytes (4 * g)
  if nat_lt (length bytes) (base + o) then Err faults.Damaged else Ok (base + o)

-- the items that a term adds
abbrev pub item_kept : List ℕ → List ℕ → Entry → List Item
item_kept prefix term entry =
    if starts_with nat_eq term prefix then record { term = term; entry = entry } ∷ [] else []

-- whether a term that begins with the prefix may stand after this one
abbrev pub goes_on : List ℕ → List ℕ → Bool
goes_on prefix term = starts_with nat_eq term prefix || not (less prefix term)

-- how a collection goes on after a term: what it found, with the term where it begins with the
-- prefix, is all, or more may follow
abbrev pub collected : (List ℕ → ℕ → List Item → Result (List Item) SourceFault) → List ℕ
    → List Item → List ℕ × Entry × ℕ → Result (List Item) SourceFault
collected more prefix found t =
    if goes_on prefix t.0 then more t.0 t.2 (found ++ item_kept prefix t.0 t.1)
    else Ok (found ++ item_kept prefix t.0 t.1)

-- the items that begin with a prefix among the next n terms, after those that were found: the i-th
-- term of the dictionary stands at a place, after the term before
unfoldable pub collect_at : ℕ → List ℕ → List ℕ → ℕ → List ℕ → ℕ → List Item
    → Result (List Item) SourceFault
collect_at zero bytes prefix i before at found = Ok found
collect_at (suc n) bytes prefix i before at found =
    term_at bytes (nat_eq (i % 16) 0) before at
    >>= collected (collect_at n bytes prefix (i + 1)) prefix found

-- the group where the first term may stand that begins with a prefix, by where the prefix stands
abbrev pub group_of : Standing → ℕ
group_of (First group entry) = group
group_of (After groups matched next) = groups - 1

-- the items from a group on that begin with a prefix
abbrev pub items_from_group : List ℕ → ℕ → List ℕ → ℕ → ℕ → Result (List Item) SourceFault
items_from_group bytes terms prefix group at =
    collect_at (terms - 16 * group) bytes prefix (16 * group) [] at []

-- the items that begin with a prefix, as the bytes say as a dictionary of so many terms, or damage
unfoldable pub entries_at : List ℕ → ℕ → List ℕ → Result (List Item) SourceFault
entries_at bytes terms prefix =
    if nat_eq terms 0 then Ok []
    else (do
      standing ← standing_at bytes terms prefix
      at ← start_at bytes (4 * group_count terms) (group_of standing)
      items_from_group bytes terms prefix (group_of standing) at)

-- the same where the bytes lie in others: a place that goes past their end is damage
unfoldable pub entries_of : List ℕ → DictPlace → List ℕ → Result (List Item) SourceFault
entries_of content place prefix =
    if nat_lt (length content) (place.at + place.bytes) then Err faults.Damaged
    else entries_at (bytes_at content place) place.terms prefix

-- a list that was made is what the bytes give, unless memory or what lies below failed
abbrev pub ListGives : Result (Vec (Vec ℕ × Entry)) ReadFault → Result (List Item) SourceFault
    → Type 0
ListGives (Ok v) read = read ≡ Ok (items_from v.items)
ListGives (Err Damaged) read = read ≡ Err faults.Damaged
ListGives (Err Disk) read = Unit {0}
ListGives (Err Memory) read = Unit {0}

-- how often the collection asks after a term that was read: for the term, and for those after it
abbrev pub asked_for : (List ℕ → ℕ → ℕ) → List ℕ → Result (List ℕ × Entry × ℕ) SourceFault → ℕ
asked_for more prefix (Ok t) =
    5 + asks_for (length t.0) + (if goes_on prefix t.0 then more t.0 t.2 else 0)
asked_for more prefix (Err e) = 0

-- how often a collection that ends well asks at most
unfoldable pub asks_at : ℕ → List ℕ → List ℕ → ℕ → List ℕ → ℕ → ℕ
asks_at zero bytes prefix i before at = 0
asks_at (suc n) bytes prefix i before at =
    asked_for (asks_at n bytes prefix (i + 1)) prefix
    (term_at bytes (nat_eq (i % 16) 0) before at)

-- a group begins at a place, and no item before it begins with the prefix
pub record IsStart (bytes : List ℕ) (es : List Item) (prefix : List ℕ) (group at : ℕ) : Type 0 where
  pub some : 16 * group < length es
  pub place : at ≤ length bytes
  pub stands : drop at bytes
      ≡ spelled_items (16 * group) (last_of [] (take (16 * group) es)) (drop (16 * group) es)
  pub none : items_with_prefix prefix (take (16 * group) es) ≡ []
