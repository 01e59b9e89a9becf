-- Numbers that rise from above the last one on, document by document.
use Rattle.std.proofs.Common.{◌≡◌, ℕ, zero, suc, ◌+◌, ◌<◌, ◌≤◌, List, [], ◌∷◌, ◌++◌, length, drop, subst, ◌∙◌, arith}
use Rattle.std.specs.Prelude.{slice_index}
use Rattle.std.specs.List.Sorted.{IsStrictlyIncreasing}
use Rattle.pk_join.proofs.DocLemmas.{drop_doc}
use Rattle.pk_model.specs.Collection.{Doc, numbers_of}
use Rattle.pk_segment.specs.declared.directory.Directory.{Directory}
use Rattle.pk_segment.specs.Directory.{IsDirectoryOf, doc_in, entries_in}
use Rattle.pk_segment.proofs.DirectoryLemmas.{entries_of}
use Rattle.pk_segment.proofs.OpeningLemmas.{index_in}
use Rattle.pk_merge.specs.Gathering.{RiseFrom}

-- the first number is above the last one
pub rise_here : (last : ℕ) (d : Doc) (docs : List Doc) → RiseFrom last (d ∷ docs) → last < d.number
rise_here last d docs rise = rise 0 (omega arith)

-- and those behind it rise from above it on
pub rise_next : (last : ℕ) (d : Doc) (docs : List Doc) → RiseFrom last (d ∷ docs) → RiseFrom d.number docs
rise_next last d docs rise = λ k within.
    let e : suc k + 1 ≡ suc (k + 1) = omega arith in
    subst (λ (n : ℕ). slice_index (d.number ∷ numbers_of docs) k < slice_index
    (last ∷ d.number ∷ numbers_of docs) n) e
    (rise (suc k) (omega (arith, within)))

-- numbers that rise from 1 on rise from above 0 on
pub rise_zero : (docs : List Doc) → IsStrictlyIncreasing (numbers_of docs)
    → (0 < length docs → 1 ≤ (doc_in docs 0).number) → RiseFrom 0 docs
rise_zero [] rising least = λ k within. absurd (omega (arith, within))
rise_zero (d ∷ docs) rising least = first
  where
    first : RiseFrom 0 (d ∷ docs)
    first zero within = least (omega arith)
    first (suc k) within =
        let e : suc (k + 1) ≡ suc k + 1 = omega arith in
        subst (λ (n : ℕ). slice_index (d.number ∷ numbers_of docs) k < slice_index
        (0 ∷ d.number ∷ numbers_of docs) n) e
        (rising k (omega (arith, within)))

rise_at : (last i : ℕ) (docs more : List Doc) → i < length docs → RiseFrom last (drop i docs ++ more)
    → RiseFrom last (doc_in docs i ∷ (drop (i + 1) docs ++ more))
rise_at last i docs more lt rise = subst (λ (xs : List Doc). RiseFrom last (xs ++ more)) (drop_doc docs i lt)
    rise

-- The ith document comes next: it has this number, above the last one, and from it on they rise.
pub record Comes (docs more : List Doc) (i last n : ℕ) : Type 0 where
  pub within : i < length docs
  pub number : n ≡ (doc_in docs i).number
  pub above : last < n
  pub rise : RiseFrom last (doc_in docs i ∷ (drop (i + 1) docs ++ more))

-- where a directory tells the number
pub comes : (d : Directory) (docs more : List Doc) (kind i last n : ℕ) → IsDirectoryOf d docs kind
    → i < entries_in d → n ≡ slice_index (numbers_of docs) i → RiseFrom last (drop i docs ++ more)
    → Comes docs more i last n
comes d docs more kind i last n is lt told rise =
    let within : i < length docs = omega (arith, entries_of d docs kind is, lt) in
    let number = told ∙ index_in docs i in
    let from_here = rise_at last i docs more within rise in
    record {
      within = within;
      number = number;
      above = omega (
        arith,
        number,
        rise_here last (doc_in docs i) (drop (i + 1) docs ++ more) from_here,
      );
      rise = from_here;
    }
