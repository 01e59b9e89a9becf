-- Numbers lie at least as far apart as their entries.
use Rattle.std.proofs.Common.{◌≡◌, ◌≤◌, ◌<◌, ◌+◌, ◌-◌, ◌∙◌, ℕ, zero, suc, List, length, arith, subst}
use Rattle.pk_model.specs.Collection.{Doc}
use Rattle.pk_segment.proofs.OpeningLemmas.{index_in}
use Rattle.pk_segment.proofs.SegmentLemmas.{rise_in, rise_of}
use Rattle.pk_segment.specs.declared.segment.Segment.{Segment}
use Rattle.pk_segment.specs.Directory.{doc_in}
use Rattle.pk_segment.specs.Opened.{IsSegmentOf, first_of, last_of}
use Rattle.pk_segment.specs.Spelling.{AreDocuments}

spaced_by : (docs : List Doc) (i k : ℕ) → AreDocuments docs → i + k < length docs → (doc_in docs i).number + k ≤ (doc_in docs (i + k)).number
spaced_by docs i zero are lt =
    let same : i ≡ i + zero = omega arith in
    subst (λ (n : ℕ). (doc_in docs i).number + zero ≤ (doc_in docs n).number) same (omega arith)
spaced_by docs i (suc k) are lt =
    let before = spaced_by docs i k are (omega (arith, lt)) in
    let next = rise_in 0 docs (i + k) (i + suc k) (rise_of docs are) (omega arith) lt in
    omega (arith, before, next)

spaced : (docs : List Doc) (i j : ℕ) → AreDocuments docs → i ≤ j → j < length docs → (doc_in docs i).number + (j - i) ≤ (doc_in docs j).number
spaced docs i j are le lt =
    let same : i + (j - i) ≡ j = omega (arith, le) in
    subst (λ (n : ℕ). (doc_in docs i).number + (j - i) ≤ (doc_in docs n).number) same (spaced_by docs i (j - i) are (omega (arith, le, lt)))

-- a number lies as far above the first as its entry lies behind it
pub above_first : (s : Segment) (docs : List Doc) (i : ℕ) → AreDocuments docs → IsSegmentOf s docs → i < length docs → first_of s + i ≤ (doc_in docs i).number
above_first s docs i are of lt =
    let first = of.first_is ∙ index_in docs 0 in
    let apart = spaced docs 0 i are (omega arith) lt in
    omega (arith, first, apart)

-- and as far below the last
pub below_last : (s : Segment) (docs : List Doc) (i : ℕ) → AreDocuments docs → IsSegmentOf s docs → i < length docs → (doc_in docs i).number + (length docs - 1 - i) ≤ last_of s
below_last s docs i are of lt =
    let last = of.last_is ∙ index_in docs (length docs - 1) in
    let apart = spaced docs i (length docs - 1) are (omega (arith, lt)) (omega (arith, lt)) in
    omega (arith, last, apart)
