-- How many bytes a list takes at least.
use Rattle.std.proofs.Common.{◌≡◌, ℕ, zero, suc, ◌<◌, ◌≤◌, ◌+◌, ◌-◌, ◌*◌, ◌/◌, ◌%◌, ◌^◌, inl, inr, List, [], ◌∷◌, length, drop, slice_index, arith, ap, ◌∙◌, length-append, length-drop}
use Rattle.std.proofs.Math.Pow.{pow_mono}
use Rattle.std.proofs.lemmas.Bool.{cases_lt}
use Rattle.std.proofs.lemmas.List.{get_or-append_right}
use Rattle.pk_vbyte.specs.VariableByte.{vbyte}
use Rattle.pk_vbyte.proofs.CallerLemmas.{some_bytes}
use Rattle.pk_posting.specs.Posting.{IsPosting, Spells, tail_bytes, seed, block, tail_place}
use Rattle.pk_posting.specs.Spelling.{width_at, differences_of, widths_of}
use Rattle.pk_posting.proofs.BlockLemmas.{one_zero, length_part, get_part, length_seed}
use Rattle.pk_posting.proofs.DifferenceLemmas.{length_differences, difference}
use Rattle.pk_posting.proofs.WritingLemmas.{width_fits, total_is}

-- numbers four places apart differ by four at least
rise : (xs : List ℕ) (i : ℕ) → IsPosting xs → i + 1 < length xs → slice_index xs i < slice_index xs (i + 1)
rise xs i p h =
    let e : 1 + i ≡ i + 1 = omega arith in
    let z = rw e at (one_zero xs i) in
    let u = p.rising (i + 1) h in
    omega (arith, z, u)

four_more : (xs : List ℕ) (i : ℕ) → IsPosting xs → i + 4 < length xs → slice_index xs i + 4 ≤ slice_index xs (i + 4)
four_more xs i p h =
    let b : i + 1 + 1 ≡ i + 2 = omega arith in
    let c : i + 2 + 1 ≡ i + 3 = omega arith in
    let d : i + 3 + 1 ≡ i + 4 = omega arith in
    let r0 = rise xs i p (omega arith) in
    let r1 = rw b at (rise xs (i + 1) p (omega arith)) in
    let r2 = rw c at (rise xs (i + 2) p (omega arith)) in
    let r3 = rw d at (rise xs (i + 3) p (omega arith)) in
    omega (arith, r0, r1, r2, r3)

-- so a block's width is three at least
width_least_three : (xs : List ℕ) (k : ℕ) → IsPosting xs → 128 * k + 128 ≤ length xs → 3 ≤ width_at k xs
width_least_three xs k p h =
    let long = length_part (128 * k) 128 xs h in
    let d = difference (seed k xs) (block k xs) 127 (omega (arith, long)) in
    let four = length_seed k xs (omega arith) in
    let before = get_or-append_right (seed k xs) (block k xs) 4 127 0 four (omega arith) ∙ get_part (128 * k) 128 xs 123 (omega arith) in
    let here = get_part (128 * k) 128 xs 127 (omega arith) in
    let e : 128 * k + 123 + 4 ≡ 128 * k + 127 = omega arith in
    let rises = rw e at (four_more xs (128 * k + 123) p (omega arith)) in
    let fits = width_fits (differences_of k xs) 127 (omega (arith, length_differences (seed k xs) (block k xs), long)) in
    elim (cases_lt (width_at k xs) 3) [
      | inl l ↦ (let m : 2 ^ width_at k xs ≤ 2 ^ 2 = pow_mono {j = 2} (let b : width_at k xs ≤ 2 = omega arith in b) in absurd (omega (arith, d, before, here, rises, fits, m)))
      | inr r ↦ r
    ]

widths_least : (xs : List ℕ) (n : ℕ) → IsPosting xs → 128 * n ≤ length xs → 3 * n ≤ widths_of n xs
unfolding widths_of
widths_least xs zero p h = omega arith
widths_least xs (suc n) p h = omega (arith, widths_least xs n p (omega arith), width_least_three xs n p (omega arith))

tail_least : (before : ℕ) (xs : List ℕ) → length xs ≤ length (tail_bytes before xs)
unfolding tail_bytes
tail_least before [] = omega arith
tail_least before (x ∷ xs) = omega (arith, length-append (vbyte (x - before)) (tail_bytes x xs), some_bytes (x - before), tail_least x xs)

-- what spells a list has room for its entries, its blocks at width 3, and its tail
pub least_length : (bytes xs : List ℕ) → Spells bytes xs → 4 + 68 * (length xs / 128) + 16 * ((length xs / 128 + 15) / 16) + length xs % 128 ≤ length bytes
least_length bytes xs s =
    let t = total_is bytes xs s (length xs / 128) (omega arith) in
    let w = widths_least xs (length xs / 128) s.posting (omega arith) in
    let whole = s.whole in
    let tail = ap length s.tail in
    let n = tail_least (slice_index (0 ∷ xs) (128 * (length xs / 128))) (drop (128 * (length xs / 128)) xs) in
    omega (arith, t, w, whole, tail, n, length-drop (tail_place bytes (length xs / 128)) bytes, length-drop (128 * (length xs / 128)) xs)

pub too_short : (bytes xs : List ℕ) (count : ℕ) → Spells bytes xs → length xs ≡ count
    → length bytes < 4 + 68 * (count / 128) + 16 * ((count / 128 + 15) / 16) + count % 128 → ⊥
too_short bytes xs count s e h = let l = least_length bytes xs s in let f = rw e at l in omega (arith, f, h)
