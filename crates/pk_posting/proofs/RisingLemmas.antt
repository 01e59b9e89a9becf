-- Blocks of a list that rises.
use Rattle.std.proofs.Common.{◌≡◌, ℕ, zero, suc, ◌<◌, ◌≤◌, ◌+◌, ◌-◌, ◌*◌, ◌^◌, inl, inr, List, [], ◌∷◌, ◌++◌, length, take, drop, slice_index, arith, refl, sym, ap, ◌∙◌}
use Rattle.std.proofs.lemmas.Bool.{cases_lt}
use Rattle.std.proofs.lemmas.List.{ext_get_or, get_or_append_left, get_or-append_right, get_or-take, get_or-drop, length-take-le, length-drop}
use Rattle.pk_lanes.specs.Differences.{Restores}
use Rattle.pk_posting.specs.Posting.{IsPosting, Rises, seed, block}
use Rattle.pk_posting.specs.Spelling.{width_of, width_at, differences_of}
use Rattle.pk_posting.proofs.BlockLemmas.{length_part, get_part, get_seed, length_seed, three_zeros, four_zeros, one_zero}
use Rattle.pk_posting.proofs.DifferenceLemmas.{Orders, are_differences}
use Rattle.pk_posting.specs.Tails.{Climbs}
use Rattle.pk_posting.proofs.WholeLemmas.{climbs_from}
use Rattle.pk_posting.proofs.WritingLemmas.{width_is, fits_32}

pub rises_at : (xs : List ℕ) (k : ℕ) → IsPosting xs → 128 * k + 128 ≤ length xs → Rises (seed k xs) (block k xs)
rises_at xs k p room =
    let four = length_seed k xs (omega arith) in
    let get : (i : ℕ) → i < 128 → slice_index (block k xs) i ≡ slice_index xs (128 * k + i) = λ i l. get_part (128 * k) 128 xs i l in
    record {
      step = λ i l. elim (cases_lt 0 i) [
        | inl m ↦ (
            let t : 3 + i - 4 ≡ i - 1 = omega arith in
            let a = get_or-append_right (seed k xs) (block k xs) 4 (3 + i) 0 four (omega arith) ∙ ap (slice_index (block k xs)) t ∙ get (i - 1) (omega arith) in
            let one : 1 + (128 * k + (i - 1)) ≡ 128 * k + i = omega arith in
            let z = rw one at (one_zero xs (128 * k + (i - 1))) in
            let u = p.rising (128 * k + i) (omega arith) in
            omega (arith, a, get i l, z, u))
        | inr n ↦ (
            let three : 3 + i ≡ 3 = omega arith in
            let a = ap (slice_index (seed k xs ++ block k xs)) three ∙ get_or_append_left (seed k xs) (block k xs) 0 3 (omega arith) ∙ get_seed k xs 3 (omega arith) in
            let q : 128 * k + 3 ≡ 3 + 128 * k = omega arith in
            let c = ap (slice_index (0 ∷ 0 ∷ 0 ∷ 0 ∷ xs)) q ∙ three_zeros xs (128 * k) in
            let e : 128 * k + i ≡ 128 * k = omega arith in
            let u = p.rising (128 * k) (omega arith) in
            omega (arith, a, c, get i l, ap (slice_index xs) e, u))
      ];
    }

first_zeros : (xs : List ℕ) (i : ℕ) → i < 4 → slice_index (0 ∷ 0 ∷ 0 ∷ 0 ∷ xs) i ≡ 0
first_zeros xs zero h = refl
first_zeros xs (suc zero) h = refl
first_zeros xs (suc (suc zero)) h = refl
first_zeros xs (suc (suc (suc zero))) h = refl
first_zeros xs (suc (suc (suc (suc i)))) h = absurd (omega arith)

pub orders_at : (xs : List ℕ) (k : ℕ) → IsPosting xs → 128 * k ≤ length xs → Orders (seed k xs)
orders_at xs k p room = record {
  four = length_seed k xs room;
  step = λ i l. (
      let a = get_seed k xs i (omega arith) in
      let b = get_seed k xs (i + 1) (omega arith) in
      elim (cases_lt 0 k) [
        | inl m ↦ (
            let n = 128 * k - 4 + i in
            let e : 128 * k + i ≡ 4 + n = omega arith in
            let f : 128 * k + (i + 1) ≡ 4 + (n + 1) = omega arith in
            let c = ap (slice_index (0 ∷ 0 ∷ 0 ∷ 0 ∷ xs)) e ∙ four_zeros xs n in
            let d = ap (slice_index (0 ∷ 0 ∷ 0 ∷ 0 ∷ xs)) f ∙ four_zeros xs (n + 1) in
            let g : 1 + n ≡ n + 1 = omega arith in
            let z = rw g at (one_zero xs n) in
            let u = p.rising (n + 1) (omega arith) in
            omega (arith, a, b, c, d, z, u))
        | inr m ↦ (
            let e : 128 * k + i ≡ i = omega arith in
            let c = ap (slice_index (0 ∷ 0 ∷ 0 ∷ 0 ∷ xs)) e ∙ first_zeros xs i (omega arith) in
            omega (arith, a, c))
      ]);
}

-- what `differ` and `width` answer of a block
pub differences_are : (xs : List ℕ) (k : ℕ) (ds : List ℕ) (w : ℕ) → IsPosting xs → 128 * k + 128 ≤ length xs → Restores (seed k xs) ds (block k xs)
    → length ds ≡ 128 → w ≤ 32 → ((i : ℕ) → i < 128 → slice_index ds i < 2 ^ w)
    → ((a : ℕ) → ((i : ℕ) → i < 128 → slice_index ds i < 2 ^ a) → w ≤ a) → (ds ≡ differences_of k xs) × (w ≡ width_at k xs)
differences_are xs k ds w p room r long most fits least =
    let same = are_differences (seed k xs) ds (block k xs) (orders_at xs k p (omega arith)) (rises_at xs k p room) r long (length_part (128 * k) 128 xs room)
    (fits_32 ds w most fits) (λ i l. (let g = get_part (128 * k) 128 xs i l in let b = p.below (128 * k + i) (omega arith) in omega (arith, g, b))) in
    (same, width_is ds w long fits least ∙ ap width_of same)

four_at : (xs : List ℕ) (at c : ℕ) → c < 4
    → slice_index (slice_index xs at ∷ slice_index xs (at + 1) ∷ slice_index xs (at + 2) ∷ slice_index xs (at + 3) ∷ []) c ≡ slice_index xs (at + c)
four_at xs at zero h = let e : at ≡ at + 0 = omega arith in ap (slice_index xs) e
four_at xs at (suc zero) h = refl
four_at xs at (suc (suc zero)) h = refl
four_at xs at (suc (suc (suc zero))) h = refl
four_at xs at (suc (suc (suc (suc c)))) h = absurd (omega arith)

-- the four numbers before a block
pub seed_four : (xs : List ℕ) (k at : ℕ) → at + 4 ≡ 128 * k → 128 * k ≤ length xs
    → slice_index xs at ∷ slice_index xs (at + 1) ∷ slice_index xs (at + 2) ∷ slice_index xs (at + 3) ∷ [] ≡ seed k xs
seed_four xs k at e room =
    let four = slice_index xs at ∷ slice_index xs (at + 1) ∷ slice_index xs (at + 2) ∷ slice_index xs (at + 3) ∷ [] in
    ext_get_or 0 four (seed k xs) (sym (length_seed k xs room)) (λ c h.
    let l : c < 4 = omega arith in
    let place : 128 * k + c ≡ 4 + (at + c) = omega arith in
    four_at xs at c l ∙ sym (get_seed k xs c l ∙ ap (slice_index (0 ∷ 0 ∷ 0 ∷ 0 ∷ xs)) place ∙ four_zeros xs (at + c)))

-- ---- the tail

-- the number before the tail, from the numbers before it
pub last_before : (xs : List ℕ) (n : ℕ) → n ≤ length xs → slice_index (0 ∷ take n xs) (length (take n xs)) ≡ slice_index (0 ∷ xs) n
last_before xs zero h = refl
last_before xs (suc m) h =
    let e : length (take (suc m) xs) ≡ suc m = length-take-le (suc m) xs h in
    ap (slice_index (0 ∷ take (suc m) xs)) e ∙ get_or-take (suc m) xs m 0 (omega arith)

pub tail_climbs : (xs : List ℕ) (n : ℕ) → IsPosting xs → n ≤ length xs → Climbs (slice_index (0 ∷ xs) n) (drop n xs)
tail_climbs xs n p h =
    climbs_from (slice_index (0 ∷ xs) n) (drop n xs)
    (λ i l. rises_on i (omega (arith, length-drop n xs)))
    (λ i l. (let g = get_or-drop n xs i 0 in let b = p.below (n + i) (omega (arith, length-drop n xs)) in omega (arith, g, b)))
  where
    rises_on : (i : ℕ) → n + i < length xs → slice_index (slice_index (0 ∷ xs) n ∷ drop n xs) i < slice_index (drop n xs) i
    rises_on zero l = (
        let e : n + 0 ≡ n = omega arith in
        let g = get_or-drop n xs 0 0 ∙ ap (slice_index xs) e in
        let u = p.rising n (omega arith) in omega (arith, g, u))
    rises_on (suc i) l = (
        let e : n + suc i ≡ 1 + (n + i) = omega arith in
        let z = ap (slice_index (0 ∷ xs)) e ∙ one_zero xs (n + i) in
        let g = get_or-drop n xs (suc i) 0 in
        let f = get_or-drop n xs i 0 in
        let u = p.rising (n + suc i) l in omega (arith, z, g, f, u))
