-- Lists that are whole: each lies within its segment, whatever the bytes are, which spell one there.
use Rattle.std.specs.Prelude.{◌≡◌, ◌≤◌, ◌<◌, ◌+◌, ℕ, suc, List, length, slice_index, get_or, Ok, All}
use Rattle.std.specs.List.{AllByRecursion}
use Rattle.pk_dict.specs.declared.entry.DictPlace.{DictPlace}
use Rattle.pk_dict.specs.declared.entry.Entry.{Entry}
use Rattle.pk_dict.specs.Dictionary.{Item, group_count}
use Rattle.pk_dict.specs.Place.{bytes_at}
use Rattle.pk_dict.specs.Said.{first_words, nth_word}
use Rattle.pk_disk.specs.Units.{extent_bytes}
use Rattle.pk_disk.specs.declared.units.Extent.{Extent}
use Rattle.pk_posting.specs.declared.fields.ListPlace.{ListPlace}
use Rattle.pk_join.specs.declared.walk.Walk.{Walk}
use Rattle.pk_join.specs.declared.walk_input.Input.{Input}
use Rattle.pk_join.specs.Listed.{ListSource, Dictionary, Texts, source_of}
use Rattle.pk_join.specs.WalkInput.{Holds, passed_in}
use Rattle.pk_join.specs.WholeLists.{HasListAt, behind}

-- A list is whole: it lies in the extent, whatever the bytes are. Where it is known that what was
-- read are the bytes of the disk, as on an honest one, these spell a list there.
pub record IsWhole (known : Type 0) (bytes : List ℕ) (e : Extent) (place : ListPlace) : Type 0 where
  pub within : place.at + place.bytes ≤ e.bytes
  pub spelled : known → HasListAt (extent_bytes bytes e) place

-- so is that of the nth word that a dictionary there says, the first being 0
abbrev pub ListIsWhole : List ℕ → Extent → ListSource → ℕ → Type 0
ListIsWhole bytes e (Dictionary place postings deleted) n = (t : List ℕ × Entry × ℕ)
    → nth_word (bytes_at (extent_bytes bytes e) place) (group_count place.terms) (suc n) ≡ Ok t
    → IsWhole (Unit {0}) bytes e (behind postings t.1.place)
ListIsWhole bytes e (Texts t deleted) n = Unit {0}

-- that of the nth word of an input is, where this is known
abbrev pub WordIsWhole : Type 0 → List ℕ → Input → ℕ → Type 0
WordIsWhole known bytes i n = known → ListIsWhole bytes i.extent (source_of i.lists) n

-- so it is of the word at its head, if what was read of it stands in the bytes
abbrev pub HeadIsWhole : Type 0 → List ℕ → Input → Type 0
HeadIsWhole known bytes i = WordIsWhole (known × Holds bytes i) bytes i (passed_in i)

-- and of that at the head of each input that is noted
abbrev pub NotedAreWhole : Type 0 → List ℕ → List Input → List ℕ → Type 0
NotedAreWhole known bytes is ns = (k : ℕ) (d : Input) → k < length ns
    → WordIsWhole (known × All (Holds bytes) is) bytes (get_or is (slice_index ns k) d)
    (passed_in (get_or is (slice_index ns k) d))

-- Inputs have passed whole lists alone since they stood as others, if what was read of those stood
-- in the bytes; and then what is read of them does.
pub record PassWhole (known : Type 0) (bytes : List ℕ) (old new : List Input) : Type 0 where
  pub lists : (k n : ℕ) (d : Input) → k < length new → passed_in (get_or old k d) ≤ n
      → n < passed_in (get_or new k d)
      → WordIsWhole (known × All (Holds bytes) old) bytes (get_or new k d) n
  pub hold : known → All (Holds bytes) old → All (Holds bytes) new

-- so have those of a walk
abbrev pub WalksWhole : Type 0 → List ℕ → Walk → Walk → Type 0
WalksWhole known bytes old new = PassWhole known bytes old.inputs.items new.inputs.items

-- A dictionary in an extent says all of its words, and the list of each is whole.
pub record NamesLists (bytes : List ℕ) (e : Extent) (place : DictPlace) (postings : ℕ) : Type 0 where
  pub items : List Item
  pub said : first_words (bytes_at (extent_bytes bytes e) place) (group_count place.terms) place.terms
      ≡ Ok items
  pub whole : AllByRecursion
      (λ (i : Item). IsWhole (Unit {0}) bytes e (behind postings i.entry.place)) items

-- so does the one that an input has
abbrev pub SourceIsWhole : List ℕ → Extent → ListSource → Type 0
SourceIsWhole bytes e (Dictionary place postings deleted) = NamesLists bytes e place postings
SourceIsWhole bytes e (Texts t deleted) = Unit {0}

-- the lists of all words of an input are whole, where this is known
abbrev pub AllAreWhole : Type 0 → List ℕ → Input → Type 0
AllAreWhole known bytes i = known → SourceIsWhole bytes i.extent (source_of i.lists)
