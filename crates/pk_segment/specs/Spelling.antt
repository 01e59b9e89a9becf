-- The bytes of a segment.
use Rattle.std.specs.Prelude.{
  ◌≡◌,
  ◌⊎◌,
  ◌==◌,
  ℕ,
  ◌+◌,
  ◌*◌,
  ◌^◌,
  ◌<◌,
  ◌≤◌,
  List,
  [],
  ◌∷◌,
  ◌++◌,
  length,
  map,
  take,
  drop,
  All,
  IsUtf8,
  if◌then◌else◌,
}
use Rattle.std.specs.List.{flat_map}
use Rattle.std.specs.List.Sorted.{IsStrictlyIncreasing}
use Rattle.std.specs.Int.{w32, to_le_bytes}
use Rattle.pk_model.specs.declared.documents.Document.{Document}
use Rattle.pk_model.specs.Collection.{Doc, numbers_of}
use Rattle.pk_model.specs.Terms.{terms_of}
use Rattle.pk_model.specs.Views.{doc_of}
use Rattle.pk_model.specs.Limits.{max_segment_bytes}
use Rattle.pk_segment.specs.Indexed.{dictionary, postings}

-- the bytes of a number of 32 bits, lowest first
unfoldable pub le32 : ℕ → List ℕ
le32 n = to_le_bytes w32 n

-- documents of the code, as the definitions see them
abbrev pub docs_of : List Document → List Doc
docs_of documents = map doc_of documents

-- the texts one after another, without gaps
abbrev pub texts : List Doc → List ℕ
texts docs = flat_map (λ (d : Doc). d.text) docs

-- the header: six numbers
unfoldable pub header : ℕ → ℕ → ℕ → ℕ → ℕ → ℕ → List ℕ
header kind count text_bytes postings dictionary terms =
    le32 kind ++ le32 count ++ le32 text_bytes ++ le32 postings ++ le32 dictionary ++ le32 terms

-- an entry of the directory: the number, the offset of the text among the texts, its length
unfoldable pub directory_entry : ℕ → Doc → List ℕ
directory_entry at d = le32 d.number ++ le32 at ++ le32 (length d.text)

-- the entries of documents whose texts begin at an offset
abbrev pub directory : ℕ → List Doc → List ℕ
directory at [] = []
directory at (d ∷ docs) = directory_entry at d ++ directory (at + length d.text) docs

-- WHAT STANDS BEHIND THE TEXTS: nothing in kind 1, the index in kind 2
abbrev pub postings_in : List Doc → ℕ → List ℕ
postings_in docs kind = if kind == 2 then postings docs else []

abbrev pub dictionary_in : List Doc → ℕ → List ℕ
dictionary_in docs kind = if kind == 2 then dictionary docs else []

abbrev pub terms_in : List Doc → ℕ → ℕ
terms_in docs kind = if kind == 2 then length (terms_of docs) else 0

-- the header of the segment of a kind of the documents
abbrev pub header_in : List Doc → ℕ → List ℕ
header_in docs kind =
    header kind (length docs) (length (texts docs)) (length (postings_in docs kind))
    (length (dictionary_in docs kind)) (terms_in docs kind)

-- the segment: header, directory, texts, posting lists, dictionary
unfoldable pub segment_spelling : List Doc → ℕ → List ℕ
segment_spelling docs kind =
    header_in docs kind ++ (directory 0 docs ++ (texts docs
    ++ (postings_in docs kind ++ dictionary_in docs kind)))

-- how many bytes that is
unfoldable pub segment_length : List Doc → ℕ → ℕ
segment_length docs kind =
    24 + 12 * length docs + length (texts docs) + length (postings_in docs kind)
    + length (dictionary_in docs kind)

-- Documents that a segment may hold: at least one, their numbers from 1 to 2^32 - 1 and strictly
-- rising, their texts in UTF-8.
pub record AreDocuments (docs : List Doc) : Type 0 where
  pub some : 0 < length docs
  pub rising : IsStrictlyIncreasing (numbers_of docs)
  pub each : All (λ (d : Doc). (1 ≤ d.number) × (d.number < 2 ^ 32)) docs
  pub utf8 : All (λ (d : Doc). IsUtf8 d.text) docs

-- a segment is of kind 1 or 2
abbrev pub IsKind : ℕ → Type 0
IsKind kind = (kind ≡ 1) ⊎ (kind ≡ 2)

-- THE BYTES ARE THE SEGMENT of a kind of the documents.
pub record SegmentSpells (bytes : List ℕ) (docs : List Doc) (kind : ℕ) : Type 0 where
  pub is_kind : IsKind kind
  pub are : AreDocuments docs
  pub fits : segment_length docs kind ≤ max_segment_bytes
  pub same : bytes ≡ segment_spelling docs kind

-- The bytes have the length, the header and the directory of the segment of a kind of the
-- documents. All else may be any bytes.
pub record DirectorySpells (bytes : List ℕ) (docs : List Doc) (kind : ℕ) : Type 0 where
  pub segment : List ℕ
  pub spelled : SegmentSpells segment docs kind
  pub long : length bytes ≡ length segment
  pub same : take (24 + 12 * length docs) bytes ≡ take (24 + 12 * length docs) segment

-- The bytes are the segment of kind 2 of the documents, but for the texts, which may be any bytes.
pub record IndexSpells (bytes : List ℕ) (docs : List Doc) : Type 0 where
  pub front : DirectorySpells bytes docs 2
  pub behind : drop (24 + 12 * length docs + length (texts docs)) bytes
      ≡ postings docs ++ dictionary docs
