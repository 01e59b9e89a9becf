-- Documents that are taken one after another from bytes of which nothing is known.
use Rattle.std.specs.Prelude.{◌≡◌, ◌≤◌, ◌<◌, ◌+◌, ◌*◌, ◌^◌, ℕ, List, [], ◌∷◌, ◌++◌, All, IsUtf8}
use Rattle.std.specs.Prelude.{length, take, drop, Result, Ok, Err}
use Rattle.std.specs.List.Sorted.{IsStrictlyIncreasing}
use Rattle.pk_check.specs.declared.taken.Taken.{Taken}
use Rattle.pk_index.specs.Index.{Keeps}
use Rattle.pk_model.specs.Collection.{Doc, numbers_of}
use Rattle.pk_posting.specs.declared.fault.ReadFault.{ReadFault}
use Rattle.pk_segment.specs.declared.directory.Directory.{Directory}
use Rattle.pk_segment.specs.Directory.{field_in}
use Rattle.pk_segment.specs.Fields.{entry_field}
use Rattle.pk_segment.specs.Spelling.{directory, texts}

-- The documents are such as a segment may hold, some or none.
pub record AreSome (docs : List Doc) : Type 0 where
  pub rising : IsStrictlyIncreasing (numbers_of docs)
  pub each : All (λ (d : Doc). (1 ≤ d.number) × (d.number < 2 ^ 32)) docs
  pub utf8 : All (λ (d : Doc). IsUtf8 d.text) docs

-- These documents were taken: their numbers, their index, and how many bytes their texts have.
pub record IsTaken (t : Taken) (docs : List Doc) : Type 0 where
  pub some : AreSome docs
  pub index : Keeps t.index docs
  pub numbers : t.numbers.items ≡ numbers_of docs
  pub bytes : t.bytes ≡ length (texts docs)
  pub top : (n : ℕ) → 1 ≤ n → All (λ d. d.number < n) docs → t.top ≤ n

-- The directory in memory has the entries that stand in bytes.
pub record HasEntries (bytes : List ℕ) (count : ℕ) (d : Directory) : Type 0 where
  pub same : (i : ℕ) → i < count → field_in d i ≡ entry_field bytes i

-- Bytes begin as a segment of so many documents: of the first ones, these, they have the entries in
-- the directory and the texts.
pub record IsFront (bytes : List ℕ) (count : ℕ) (docs : List Doc) : Type 0 where
  pub entries : take (12 * length docs) (drop 24 bytes) ≡ directory 0 docs
  pub texts_are : take (length (texts docs)) (drop (24 + 12 * count) bytes) ≡ texts docs

-- One document more was taken. Where the source gives its bytes, these begin with it too.
pub record TakesOne (honest : Type 0) (bytes : List ℕ) (count : ℕ) (docs : List Doc) (new : Taken)
    : Type 0 where
  pub document : Doc
  pub taken : IsTaken new (docs ++ document ∷ [])
  pub front : honest → IsFront bytes count docs → IsFront bytes count (docs ++ document ∷ [])

-- or there is a cause
abbrev pub TakesAs : {T : Type 0} → Type 0 → List ℕ → ℕ → List Doc → Taken → Result T ReadFault
    → Type 0
TakesAs honest bytes count docs new (Ok u) = TakesOne honest bytes count docs new
TakesAs honest bytes count docs new (Err fault) = Unit {0}

-- So many documents were taken.
pub record TakesAll (honest : Type 0) (bytes : List ℕ) (count most : ℕ) (t : Taken) : Type 0 where
  pub documents : List Doc
  pub long : length documents ≡ most
  pub taken : IsTaken t documents
  pub front : honest → IsFront bytes count documents

abbrev pub TakesAllAs : Type 0 → List ℕ → ℕ → ℕ → Result Taken ReadFault → Type 0
TakesAllAs honest bytes count most (Ok t) = TakesAll honest bytes count most t
TakesAllAs honest bytes count most (Err fault) = Unit {0}
