-- What any bytes of a segment say of the words of a query.
use Rattle.std.specs.Prelude.{◌<◌, ℕ, List, [], None, Option, get_or, length}
use Rattle.pk_dict.specs.declared.entry.DictPlace.{DictPlace}
use Rattle.pk_dict.specs.declared.entry.Entry.{Entry}
use Rattle.pk_dict.specs.LookUp.{IsSaid}
use Rattle.pk_dict.specs.Place.{bytes_at}
use Rattle.pk_filter.specs.declared.filter.WordFilter.{WordFilter}
use Rattle.pk_lookup.specs.declared.filters.SegmentFilter.{SegmentFilter}
use Rattle.pk_lookup.specs.Filtered.{KeepsFilter}

-- the dictionary that lies there says this of a word
abbrev pub SaysOf : List ℕ → DictPlace → List ℕ → Option Entry → Type 0
SaysOf bytes place word entry = IsSaid (bytes_at bytes place) place.terms word entry

-- so of each word that has an entry among these, or none
abbrev pub SaysOfEach : List ℕ → DictPlace → List (List ℕ) → List (Option Entry) → Type 0
SaysOfEach bytes place words entries =
    (i : ℕ) → i < length entries → SaysOf bytes place (get_or words i []) (get_or entries i None)

-- no filter is kept under the id
abbrev pub KeepsNone : List SegmentFilter → ℕ → Type 0
KeepsNone filters id = (filter : WordFilter) → KeepsFilter filters id filter → ⊥
