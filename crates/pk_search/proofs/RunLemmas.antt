-- Numbers one after another: they rise, and are those of a segment that has each between its ends.
use Rattle.std.proofs.Common.{◌≡◌, ◌<◌, ◌+◌, ◌-◌, ℕ, List, length, arith}
use Rattle.std.specs.List.Sorted.{IsStrictlyIncreasing}
use Rattle.std.proofs.lemmas.Grind.{same_number_lists}
use Rattle.std.proofs.lemmas.List.{length-map}
use Rattle.pk_model.specs.Collection.{Doc, numbers_of}
use Rattle.pk_search.specs.Runs.{IsRun}
use Rattle.pk_segment.proofs.OpeningLemmas.{index_in}
use Rattle.pk_segment.proofs.RangeLemmas.{above_first, below_last}
use Rattle.pk_segment.specs.declared.segment.Segment.{Segment}
use Rattle.pk_segment.specs.Opened.{IsSegmentOf, count_of, first_of, last_of}
use Rattle.pk_segment.specs.Spelling.{AreDocuments}

pub run_rises : (first count : ℕ) (xs : List ℕ) → IsRun first count xs → IsStrictlyIncreasing xs
run_rises first count xs is k lt =
    let here = is.each k (omega (arith, is.long, lt)) in
    let next = is.each (k + 1) (omega (arith, is.long, lt)) in
    omega (arith, here, next)

pub run_is : (s : Segment) (docs : List Doc) (first last : ℕ) (xs : List ℕ) → AreDocuments docs → IsSegmentOf s docs → first ≡ first_of s → last ≡ last_of s
    → last_of s + 1 ≡ first_of s + count_of s → IsRun first (last + 1 - first) xs → xs ≡ numbers_of docs
run_is s docs first last xs are of first_is last_is far is =
    let long = length-map docs (λ (d : Doc). d.number) in
    same_number_lists xs (numbers_of docs) (omega (arith, is.long, far, of.count_is, long, first_is, last_is)) (λ k lt.
    let inside : k < length docs = omega (arith, lt, is.long, far, of.count_is, first_is, last_is) in
    let number = is.each k (omega (arith, lt, is.long)) in
    let low = above_first s docs k are of inside in
    let high = below_last s docs k are of inside in
    omega (arith, number, low, high, far, first_is, of.count_is, inside, index_in docs k))
