-- Documents by their index in a directory, and a directory that is in memory.
use Rattle.std.specs.Prelude.{
  ◌≡◌,
  ℕ,
  zero,
  suc,
  ◌<◌,
  ◌+◌,
  ◌*◌,
  ◌/◌,
  false,
  List,
  [],
  ◌∷◌,
  length,
  take,
  drop,
  Option,
  Some,
  None,
}
use Rattle.pk_model.specs.Collection.{Doc, is_live}
use Rattle.pk_segment.specs.declared.directory.Directory.{Directory}
use Rattle.pk_segment.specs.declared.directory.Entry.{Entry}
use Rattle.pk_segment.specs.Fields.{number_at}
use Rattle.pk_segment.specs.Spelling.{SegmentSpells}

-- no document
abbrev pub no_doc : Doc
no_doc = record { number = 0; text = [] }

-- the ith document, the first being 0
abbrev pub doc_in : List Doc → ℕ → Doc
doc_in [] i = no_doc
doc_in (d ∷ docs) zero = d
doc_in (d ∷ docs) (suc i) = doc_in docs i

-- where the text of the ith document begins, those of all beginning at an offset
abbrev pub offset_in : ℕ → List Doc → ℕ → ℕ
offset_in at [] i = at
offset_in at (d ∷ docs) zero = at
offset_in at (d ∷ docs) (suc i) = offset_in (at + length d.text) docs i

-- The numbers of an entry are those of the ith document.
pub record EntrySays (docs : List Doc) (i number at len : ℕ) : Type 0 where
  pub number_is : number ≡ (doc_in docs i).number
  pub at_is : at ≡ offset_in 0 docs i
  pub len_is : len ≡ length (doc_in docs i).text

-- the entry of the document of a number, or none where no document has it
abbrev pub FindsEntry : List Doc → ℕ → Option Entry → Type 0
FindsEntry docs n None = is_live n docs ≡ false
FindsEntry docs n (Some e) =
    (i : ℕ) × (i < length docs) × (e.number ≡ n) × EntrySays docs i e.number e.at e.len

-- how many entries a directory in memory has
abbrev pub entries_in : Directory → ℕ
entries_in d = length d.bytes.items / 12

-- the 12 bytes of its ith entry
abbrev pub field_in : Directory → ℕ → List ℕ
field_in d i = take 12 (drop (12 * i) d.bytes.items)

-- the number of its ith entry
abbrev pub number_in : Directory → ℕ → ℕ
number_in d i = number_at 0 (field_in d i)

-- The directory in memory is that of the segment of a kind of the documents.
pub record IsDirectoryOf (d : Directory) (docs : List Doc) (kind : ℕ) : Type 0 where
  pub segment : List ℕ
  pub spelled : SegmentSpells segment docs kind
  pub same : d.bytes.items ≡ take (12 * length docs) (drop 24 segment)
