-- What an open segment shows, and what opening answers.
use Rattle.std.specs.Prelude.{
  ◌≡◌,
  ℕ,
  ◌+◌,
  ◌-◌,
  ◌*◌,
  ◌≤◌,
  true,
  List,
  length,
  slice_index,
  Result,
  Ok,
  Err,
}
use Rattle.pk_model.specs.Collection.{Doc, numbers_of}
use Rattle.pk_posting.specs.declared.source.SourceFault.{SourceFault}
use Rattle.pk_segment.specs.declared.header.Header.{Header}
use Rattle.pk_segment.specs.declared.segment.Segment.{Segment}
use Rattle.pk_segment.specs.Fields.{IsHeader, is_sound, header_field, entry_field, number_at}
use Rattle.pk_segment.specs.Spelling.{texts}
use Rattle.pk_segment.specs.Reading.{IsNoDamage, read_of}

-- how many documents it has
abbrev pub count_of : Segment → ℕ
count_of s = s.count

-- the bytes of all its texts
abbrev pub texts_of : Segment → ℕ
texts_of s = s.texts

-- the number of its first document
abbrev pub first_of : Segment → ℕ
first_of s = s.first

-- the number of its last document
abbrev pub last_of : Segment → ℕ
last_of s = s.last

-- An open segment is one of these documents.
pub record IsSegmentOf (s : Segment) (docs : List Doc) : Type 0 where
  pub count_is : count_of s ≡ length docs
  pub texts_is : texts_of s ≡ length (texts docs)
  pub first_is : first_of s ≡ slice_index (numbers_of docs) 0
  pub last_is : last_of s ≡ slice_index (numbers_of docs) (length docs - 1)

-- The bytes open as this segment of that kind and that many bytes: the header is sound, header and
-- directory are there, and the first and the last number are of at least 1 and in order.
pub record IsOpened (bytes : List ℕ) (size kind : ℕ) (s : Segment) : Type 0 where
  pub header : Header
  pub read : IsHeader (header_field bytes) header
  pub sound : is_sound size kind header ≡ true
  pub inside : 24 + 12 * header.count ≤ length bytes
  pub count_is : count_of s ≡ header.count
  pub texts_is : texts_of s ≡ header.texts
  pub lists_is : s.lists ≡ header.postings
  pub dictionary_is : s.dictionary ≡ header.dictionary
  pub terms_is : s.terms ≡ header.terms
  pub first_is : first_of s ≡ number_at 0 (entry_field bytes 0)
  pub last_is : last_of s ≡ number_at 0 (entry_field bytes (header.count - 1))
  pub least : 1 ≤ first_of s
  pub order : first_of s ≤ last_of s

-- a segment of the documents, or a cause
abbrev pub OpensAs : List Doc → Result Segment SourceFault → Type 0
OpensAs docs (Ok s) = IsSegmentOf s docs
OpensAs docs (Err fault) = IsNoDamage (read_of fault)
