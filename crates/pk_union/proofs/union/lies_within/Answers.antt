-- A list that rises lies between its first and its last number.
use Rattle.std.proofs.Common.{◌≡◌, ◌+◌, ◌-◌, ◌<◌, ◌≤◌, ℕ, List, IsTrue, length, nat_lt, slice_index, slice_index_or, arith}
use Rattle.std.proofs.lemmas.Bool.Decides.{nat_tests}
use Rattle.std.proofs.lemmas.List.{get_or_default}
use Rattle.std.specs.List.Sorted.{IsStrictlyIncreasing}
use Rattle.pk_union.proofs.PlaceLemmas.{nonempty}
use Rattle.pk_union.specs.Union.{IsWithin}
use Rattle.pk_sets.proofs.PartLemmas.{at_most}
use Rattle.pk_union.proofs.union.lies_within.Goals as goal

up_to_last : (list : List ℕ) (first : ℕ) → IsStrictlyIncreasing list → 0 < length list → first ≤ slice_index list 0 → first ≤ slice_index list (length list - 1)
up_to_last list first h some low = omega (arith, low, at_most list h 0 (length list - 1) (omega arith) (omega (arith, some)))

pub overflow_sub-result-2 : goal.overflow_sub-result-2
overflow_sub-result-2 c =
    up_to_last c.args.list.now c.args.first c.requires (nonempty c.args.list.now _ c.is_empty.ensures c.if-is_empty.false) c.if-list-first.false

is_below : (x y : ℕ) → IsTrue (nat_lt x y) → x < y
is_below x y is = grind (arith, nat_tests)

between : (list : List ℕ) (first count last k d : ℕ) → IsStrictlyIncreasing list → last + 1 ≡ length list → first ≤ slice_index list 0 → slice_index list last - first < count → k < length list → IsWithin first count (slice_index_or list k d)
between list first count last k d h at low high lt =
    let least = at_most list h 0 k (omega arith) lt in
    let most = at_most list h k last (omega (arith, lt, at)) (omega (arith, at)) in
    rw (get_or_default list k d 0 lt) (omega (arith, low, least), omega (arith, low, high, least, most))

pub returns : goal.returns
returns c = λ is k d lt.
    let list = c.args.list.now in
    between list c.args.first c.args.count (length list - 1) k d c.requires
    (omega (arith, lt)) c.if-list-first.false (is_below _ _ is) lt
