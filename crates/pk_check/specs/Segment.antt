-- What stands behind the texts of a segment.
use Rattle.std.specs.Prelude.{◌≡◌, ◌≤◌, ◌+◌, ◌*◌, ◌++◌, ℕ, List, length, take, drop, Result, Ok, Err}
use Rattle.pk_model.specs.Limits.{max_segment_bytes}
use Rattle.pk_check.specs.declared.index.Counts.{Counts}
use Rattle.pk_check.specs.declared.taken.Taken.{Taken}
use Rattle.pk_check.specs.Taking.{IsTaken}
use Rattle.pk_model.specs.Collection.{Doc}
use Rattle.pk_posting.specs.declared.fault.ReadFault.{ReadFault}
use Rattle.pk_segment.specs.Spelling.{dictionary_in, header_in, postings_in}
use Rattle.pk_segment.specs.Spelling.{segment_length, terms_in, texts}

-- From a place on stands what a segment of a kind of the documents has behind its texts, in one that
-- is not too long.
pub record Stands (bytes : List ℕ) (at : ℕ) (docs : List Doc) (kind : ℕ) : Type 0 where
  pub there : drop at bytes ≡ postings_in docs kind ++ dictionary_in docs kind
  pub fits : segment_length docs kind ≤ max_segment_bytes

-- The header's last three numbers are those of the documents; where the source gives its bytes, what
-- they speak of stands from a place on.
pub record BehindIs (honest : Type 0) (bytes : List ℕ) (at : ℕ) (docs : List Doc) (kind : ℕ)
    (c : Counts) : Type 0 where
  pub postings_is : c.postings ≡ length (postings_in docs kind)
  pub dictionary_is : c.dictionary ≡ length (dictionary_in docs kind)
  pub terms_is : c.terms ≡ terms_in docs kind
  pub there : honest → drop at bytes ≡ postings_in docs kind ++ dictionary_in docs kind

abbrev pub BehindAs : Type 0 → List ℕ → ℕ → List Doc → ℕ → Result Counts ReadFault → Type 0
BehindAs honest bytes at docs kind (Ok c) = BehindIs honest bytes at docs kind c
BehindAs honest bytes at docs kind (Err fault) = Unit {0}

-- These documents were taken, so many.
pub record AreTaken (count : ℕ) (docs : List Doc) (t : Taken) : Type 0 where
  pub taken : IsTaken t docs
  pub long : length docs ≡ count

pub record AreTakenSome (count : ℕ) (t : Taken) : Type 0 where
  pub documents : List Doc
  pub are : AreTaken count documents t

-- The bytes have the header of a segment of the documents, and behind the texts what such a segment
-- has there.
pub record HasRest (bytes : List ℕ) (docs : List Doc) (kind : ℕ) : Type 0 where
  pub head : take 24 bytes ≡ header_in docs kind
  pub rest : drop (24 + 12 * length docs + length (texts docs)) bytes
      ≡ postings_in docs kind ++ dictionary_in docs kind
