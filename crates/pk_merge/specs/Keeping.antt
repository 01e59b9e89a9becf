-- The documents that a merge keeps, by their numbers and the places of their texts.
use Rattle.std.specs.Prelude.{◌≡◌, ◌⊎◌, ◌≤◌, ◌<◌, ◌+◌, ℕ, List, [], ◌∷◌, ◌++◌, length, take, drop, All}
use Rattle.pk_join.specs.declared.input.MergeInput.{MergeInput}
use Rattle.pk_merge.specs.declared.kept.Kept.{Kept}
use Rattle.pk_merge.specs.Output.{LiesApart}
use Rattle.pk_model.specs.Collection.{Doc}
use Rattle.pk_segment.specs.Directory.{doc_in, offset_in}
use Rattle.pk_segment.specs.Spelling.{le32}

-- How many bytes the texts of kept documents have.
abbrev pub kept_bytes : List Kept → ℕ
kept_bytes [] = 0
kept_bytes (k ∷ ks) = k.len + kept_bytes ks

-- A document is kept: its number, and where its text stands among the bytes of a disk.
pub record IsKept (bytes : List ℕ) (k : Kept) (d : Doc) : Type 0 where
  pub number_is : k.number ≡ d.number
  pub len_is : k.len ≡ length d.text
  pub text_is : take k.len (drop k.at bytes) ≡ d.text

-- these documents are kept
abbrev pub AreKept : List ℕ → List Kept → List Doc → Type 0
AreKept bytes [] [] = Unit {0}
AreKept bytes [] (d ∷ ds) = ⊥
AreKept bytes (k ∷ ks) [] = ⊥
AreKept bytes (k ∷ ks) (d ∷ ds) = IsKept bytes k d × AreKept bytes ks ds

-- Of these documents the texts stand one after another from a place on, up to an end at most.
pub record TextsStand (bytes : List ℕ) (at end : ℕ) (docs : List Doc) : Type 0 where
  pub inside : (i : ℕ) → i < length docs
      → at + offset_in 0 docs i + length (doc_in docs i).text ≤ end
  pub text : (i : ℕ) → i < length docs
      → take (length (doc_in docs i).text) (drop (at + offset_in 0 docs i) bytes)
      ≡ (doc_in docs i).text

-- the texts of kept documents end here at the latest
abbrev pub EndBy : ℕ → Kept → Type 0
EndBy end k = k.at + k.len ≤ end

-- the directory of kept documents, whose texts begin at an offset
abbrev pub kept_directory : ℕ → List Kept → List ℕ
kept_directory at [] = []
kept_directory at (k ∷ ks) =
    (le32 k.number ++ le32 at ++ le32 k.len) ++ kept_directory (at + k.len) ks

-- the text of a kept document has no position of a stretch
abbrev pub KeptApart : ℕ → ℕ → Kept → Type 0
KeptApart start end k = (k.at + k.len ≤ start) ⊎ (end ≤ k.at)

-- what is kept newly has its text between these places: a stretch that has no position there and
-- none of a text that was kept has none of a text that is kept then
abbrev pub KeepsBetween : ℕ → ℕ → List Kept → List Kept → Type 0
KeepsBetween from to old new =
    (start end : ℕ) → (to ≤ start) ⊎ (end ≤ from) → All (KeptApart start end) old
    → All (KeptApart start end) new

-- kept texts have no position of a stretch that is apart from all inputs
abbrev pub StayApart : List MergeInput → List Kept → Type 0
StayApart inputs kept =
    (start end : ℕ) → All (LiesApart start end) inputs → All (KeptApart start end) kept
