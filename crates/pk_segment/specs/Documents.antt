-- What the bytes of a segment say of its documents by their entries, whatever they are.
use Rattle.std.specs.Prelude.{◌≡◌, ◌<◌, ℕ, List, length, IsUtf8}
use Rattle.pk_model.specs.Collection.{Doc}
use Rattle.pk_segment.specs.declared.directory.Directory.{Directory}
use Rattle.pk_segment.specs.declared.segment.Segment.{Segment}
use Rattle.pk_segment.specs.Directory.{entries_in, field_in}
use Rattle.pk_segment.specs.Fields.{entry_field, number_at, text_in}
use Rattle.pk_segment.specs.Opened.{count_of}

-- THE DOCUMENT OF AN ENTRY, which is 12 bytes: it has their number, and the text to which they lead.
-- That is as long as they say, and UTF-8.
pub record DocumentSaid (bytes : List ℕ) (s : Segment) (field : List ℕ) (d : Doc) : Type 0 where
  pub number_is : d.number ≡ number_at 0 field
  pub text_is : d.text ≡ text_in bytes (count_of s) field
  pub long : length d.text ≡ number_at 8 field
  pub utf8 : IsUtf8 d.text

-- the bytes have the document of an entry
abbrev pub HasDocument : List ℕ → Segment → List ℕ → Type 0
HasDocument bytes s field = (d : Doc) × DocumentSaid bytes s field d

-- that of each entry of the directory
abbrev pub HasDocuments : List ℕ → Segment → Type 0
HasDocuments bytes s = (i : ℕ) → i < count_of s → HasDocument bytes s (entry_field bytes i)

-- that of each entry of a directory in memory
abbrev pub HasDocumentsOf : List ℕ → Segment → Directory → Type 0
HasDocumentsOf bytes s d = (i : ℕ) → i < entries_in d → HasDocument bytes s (field_in d i)
