-- What reading a segment answers.
use Rattle.std.specs.Prelude.{
  ◌≡◌,
  ℕ,
  ◌+◌,
  ◌/◌,
  ◌≤◌,
  Bool,
  List,
  find,
  slice_get,
  string_bytes,
  string_len,
  Option,
  Some,
  None,
  Result,
  Ok,
  Err,
  String,
}
use Rattle.std.specs.Global.{Vec}
use Rattle.std.specs.declared.alloc.Global.{Global}
use Rattle.std.specs.Option.{option_map}
use Rattle.pk_model.specs.declared.documents.Document.{Document}
use Rattle.pk_model.specs.Collection.{Doc, numbers_of, has_number, is_live}
use Rattle.pk_model.specs.Views.{doc_of}
use Rattle.pk_posting.specs.declared.source.SourceFault.{SourceFault}
pub use Rattle.pk_posting.specs.ReadFaults.{CountsReads, read_of}
use Rattle.pk_segment.specs.declared.directory.Directory.{Directory}
use Rattle.pk_segment.specs.Directory.{IsDirectoryOf, doc_in}
use Rattle.pk_posting.specs.declared.fault.ReadFault.{ReadFault}
use Rattle.pk_posting.specs.declared.fault.ReadFault.TheVariants.{Damaged, Disk, Memory}

-- not damaged: the device failed, or memory was refused
abbrev pub IsNoDamage : ReadFault → Type 0
IsNoDamage Damaged = ⊥
IsNoDamage Disk = Unit {0}
IsNoDamage Memory = Unit {0}

-- the numbers of the documents
abbrev pub NumbersAs : List Doc → Result (Vec ℕ) ReadFault → Type 0
NumbersAs docs (Ok numbers) = numbers.items ≡ numbers_of docs
NumbersAs docs (Err fault) = IsNoDamage fault

-- whether one of the documents has the number
abbrev pub ContainsAs : List Doc → ℕ → Result Bool SourceFault → Type 0
ContainsAs docs n (Ok found) = found ≡ is_live n docs
ContainsAs docs n (Err fault) = IsNoDamage (read_of fault)

-- the directory of the documents
abbrev pub DirectoryAs : List Doc → ℕ → Result Directory ReadFault → Type 0
DirectoryAs docs kind (Ok d) = IsDirectoryOf d docs kind
DirectoryAs docs kind (Err fault) = IsNoDamage fault

-- the text of the document of a number, if there is one
abbrev pub text_of : List Doc → ℕ → Option (List ℕ)
text_of docs n = option_map (λ (d : Doc). d.text) (find (has_number n) docs)

abbrev pub TextAs : List Doc → ℕ → Result (Option (String Global)) ReadFault → Type 0
TextAs docs n (Ok text) = option_map (λ (t : String Global). string_bytes t) text ≡ text_of docs n
TextAs docs n (Err fault) = IsNoDamage fault

-- the ith document, the first being 0
abbrev pub DocumentAs : List Doc → ℕ → Result Document ReadFault → Type 0
DocumentAs docs i (Ok document) = slice_get docs i ≡ Some (doc_of document)
DocumentAs docs i (Err fault) = IsNoDamage fault

-- the bytes of a text that was found
abbrev pub found_bytes : Option (String Global) → ℕ
found_bytes None = 0
found_bytes (Some text) = string_len text

-- the text of the ith document, the first being 0
abbrev pub DocTextAs : List Doc → ℕ → Result (String Global) ReadFault → Type 0
DocTextAs docs i (Ok text) = string_bytes text ≡ (doc_in docs i).text
DocTextAs docs i (Err fault) = IsNoDamage fault
