-- What a segment of kind 2 answers by its posting lists.
use Rattle.std.specs.Prelude.{◌≡◌, ◌≤◌, ◌<◌, ◌+◌, ℕ, List, [], map, Result, Ok, Err, get_or, length}
use Rattle.std.specs.Prelude.{Option, Some, None}
use Rattle.pk_disk.specs.Units.{extent_bytes}
use Rattle.pk_dict.specs.declared.entry.Entry.{Entry}
use Rattle.pk_dict.specs.Dictionary.{entry_of}
use Rattle.pk_model.specs.Collection.{Doc}
use Rattle.pk_plan.specs.Plans.{Holding, Operation, found}
use Rattle.pk_plan.specs.Words.{texts}
use Rattle.pk_posting.specs.declared.fields.ListPlace.{ListPlace}
use Rattle.pk_posting.specs.Parts.{bytes_at}
use Rattle.pk_posting.specs.Posting.{Spells}
use Rattle.pk_posting.specs.declared.fault.ReadFault.{ReadFault}
use Rattle.pk_segment.specs.Indexed.{items_of}
use Rattle.pk_segment.specs.Listing.{LeadsTo}
use Rattle.pk_segment.specs.Placed.{IsIndexedOf}
use Rattle.pk_segment.specs.Reading.{IsNoDamage}
use Rattle.pk_segment.specs.Spelling.{IndexSpells}
use Rattle.pk_lookup.specs.declared.listed.PlannedSegment.{PlannedSegment}
use Rattle.pk_lookup.specs.Rows.{row_of}
use Rattle.pk_open.specs.declared.opened.OpenSegment.{OpenSegment}

-- the list lies at the place of the bytes, which spell it there
pub record ListLies (bytes : List ℕ) (place : ListPlace) (xs : List ℕ) : Type 0 where
  pub inside : place.at + place.bytes ≤ length bytes
  pub spelled : Spells (bytes_at bytes place) xs

-- the entries are those of the words in the documents' dictionary, in the words' order
abbrev pub AreEntriesOf : List (Option Entry) → List (List ℕ) → List Doc → Type 0
AreEntriesOf entries words docs = entries ≡ map (entry_of (items_of docs)) words

-- the entry leads to the list of what is held; without an entry no document counts
abbrev pub LeadsAs : List Doc → Operation → Option Entry → Type 0
LeadsAs docs held None = found held docs ≡ []
LeadsAs docs held (Some entry) =
    (word : List ℕ) × (held ≡ Holding word) × LeadsTo docs word entry

-- these are the plan's words, and the posting lists are theirs in the documents
pub record AreListsOf (at : PlannedSegment) (words : List (List ℕ)) (docs : List Doc) : Type 0 where
  pub segment : IsIndexedOf at.opened.now.segment docs
  pub named : texts at.planned.now.words.items ≡ words
  pub entries : AreEntriesOf at.entries.now words docs

-- the entries of the words are put into the place of what was there, or a failure
abbrev pub PutsEntries : {T : Type 0} → List (List ℕ) → List Doc → List (Option Entry) → Result T ReadFault → Type 0
PutsEntries words docs entries (Ok v) = AreEntriesOf entries words docs
PutsEntries words docs entries (Err fault) = IsNoDamage fault

-- of each of the first so many open segments, if it is of kind 2, the row is that of the words in its
-- documents' dictionary
abbrev pub AreKeptTo : ℕ → List ℕ → List (List ℕ) → List OpenSegment → List (Option Entry) → Type 0
AreKeptTo count bytes words opened table =
    (i : ℕ) (o : OpenSegment) → i < count → o ≡ get_or opened i o → o.entry.kind ≡ 2
    → (docs : List Doc) → IndexSpells (extent_bytes bytes o.entry.extent) docs
    → IsIndexedOf o.segment docs → AreEntriesOf (row_of (length words) i table) words docs

-- so is it of all of them
abbrev pub AreKept : List ℕ → List (List ℕ) → List OpenSegment → List (Option Entry) → Type 0
AreKept bytes words opened table = AreKeptTo (length opened) bytes words opened table
