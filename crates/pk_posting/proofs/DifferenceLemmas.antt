-- Differences of numbers that rise.
use Rattle.std.proofs.Common.{◌≡◌, ℕ, zero, suc, ◌<◌, ◌≤◌, ◌+◌, ◌-◌, ◌*◌, ◌%◌, ◌^◌, inl, inr, List, [], ◌∷◌, ◌++◌, length, slice_index, arith, refl, sym, ap, ◌∙◌, length-append}
use Rattle.std.specs.Simd.Lanes.{zip2}
use Rattle.std.proofs.lemmas.Bool.{cases_lt}
use Rattle.std.proofs.lemmas.List.{ext_get_or, get_or_append_left, get_or-append_right}
use Rattle.std.proofs.lemmas.Simd.{get_or-zip2}
use Rattle.std.proofs.Math.Pow.{pow_mono}
use Rattle.pk_lanes.specs.Packed.{Packed}
use Rattle.pk_lanes.specs.Differences.{Restores}
use Rattle.std.proofs.lemmas.Nat.{one_shl}
use Rattle.pk_posting.specs.Posting.{differences, NeedsBits, Rises, IsRightBlock, part}
use Rattle.pk_lanes.proofs.CallerLemmas.{same_numbers}

zip_long : (f : ℕ → ℕ → ℕ) (xs ys : List ℕ) → length xs ≤ length ys → length (zip2 f xs ys) ≡ length xs
zip_long f [] ys h = refl
zip_long f (x ∷ xs) [] h = absurd (omega arith)
zip_long f (x ∷ xs) (y ∷ ys) h = ap suc (zip_long f xs ys (omega arith))

pub length_differences : (seed xs : List ℕ) → length (differences seed xs) ≡ length xs
unfolding differences
length_differences seed xs = zip_long _ xs (seed ++ xs) (omega (arith, length-append seed xs))

pub difference : (seed xs : List ℕ) (i : ℕ) → i < length xs → slice_index (differences seed xs) i ≡ slice_index xs i - slice_index (seed ++ xs) i
unfolding differences
difference seed xs i h = get_or-zip2 (λ x y. x - y) xs (seed ++ xs) i 0 0 0 h (omega (arith, length-append seed xs))

-- numbers that do not fall
pub record Orders (seed : List ℕ) : Type 0 where
  pub four : length seed ≡ 4
  pub step : (i : ℕ) → i < 3 → slice_index seed i ≤ slice_index seed (i + 1)

after_seed : (seed xs : List ℕ) (i : ℕ) → length seed ≡ 4 → slice_index (seed ++ xs) (4 + i) ≡ slice_index xs i
after_seed seed xs i f =
    let e : 4 + i - 4 ≡ i = omega arith in
    get_or-append_right seed xs 4 (4 + i) 0 f (omega arith) ∙ ap (slice_index xs) e

no_fall : (seed xs : List ℕ) → Orders seed → Rises seed xs → (i : ℕ) → i < 131 → slice_index (seed ++ xs) i ≤ slice_index (seed ++ xs) (i + 1)
no_fall seed xs o r i h = elim (cases_lt i 3) [
  | inl l ↦ (let a = get_or_append_left seed xs 0 i (omega (arith, o.four)) in
      let b = get_or_append_left seed xs 0 (i + 1) (omega (arith, o.four)) in
      let s = o.step i l in omega (arith, a, b, s))
  | inr m ↦ (let e : 3 + (i - 3) ≡ i = omega arith in
      let f : 4 + (i - 3) ≡ i + 1 = omega arith in
      let s = rw e at (r.step (i - 3) (omega arith)) in
      let a = rw f at (after_seed seed xs (i - 3) o.four) in
      omega (arith, s, a))
]

-- each number is at least the one four places before
pub at_least : (seed xs : List ℕ) → Orders seed → Rises seed xs → (i : ℕ) → i < 128 → slice_index (seed ++ xs) i ≤ slice_index xs i
at_least seed xs o r i h =
    let a = no_fall seed xs o r i (omega arith) in
    let b = no_fall seed xs o r (i + 1) (omega arith) in
    let c = no_fall seed xs o r (i + 2) (omega arith) in
    let d = no_fall seed xs o r (i + 3) (omega arith) in
    let e : i + 1 + 1 ≡ i + 2 = omega arith in
    let f : i + 2 + 1 ≡ i + 3 = omega arith in
    let g : i + 3 + 1 ≡ 4 + i = omega arith in
    let b = rw e at b in
    let c = rw f at c in
    let d = rw g at d in
    let z = after_seed seed xs i o.four in
    omega (arith, a, b, c, d, z)

-- what was restored and does not fall was restored without a wrap
pub are_differences : (seed ds xs : List ℕ) → Orders seed → Rises seed xs → Restores seed ds xs → length ds ≡ 128 → length xs ≡ 128
    → ((i : ℕ) → i < 128 → slice_index ds i < 2 ^ 32) → ((i : ℕ) → i < 128 → slice_index xs i < 2 ^ 32) → ds ≡ differences seed xs
are_differences seed ds xs o r s ld lx bd bx = ext_get_or 0 ds (differences seed xs) (ld ∙ sym (length_differences seed xs ∙ lx)) (λ i h.
    let k : i < 128 = omega arith in
    let a = at_least seed xs o r i k in
    let b = s.step i k in
    let c = difference seed xs i (omega arith) in
    let d = bd i k in
    let e = bx i k in
    omega (arith, a, b, c, d, e))

pub restores_differences : (seed xs : List ℕ) → Orders seed → Rises seed xs → length xs ≡ 128
    → ((i : ℕ) → i < 128 → slice_index xs i < 2 ^ 32) → Restores seed (differences seed xs) xs
restores_differences seed xs o r lx bx = record {
  step = λ i k.
      let a = at_least seed xs o r i k in
      let c = difference seed xs i (omega arith) in
      let e = bx i k in
      omega (arith, a, c, e);
}

-- what differences restore is one list, up to n
restored_to : (seed ds xs ys : List ℕ) → length seed ≡ 4 → Restores seed ds xs → Restores seed ds ys → (n : ℕ) → n ≤ 128
    → (i : ℕ) → i < n → slice_index xs i ≡ slice_index ys i
restored_to seed ds xs ys f p q zero h i l = absurd (omega arith)
restored_to seed ds xs ys f p q (suc n) h i l =
    let k : i < 128 = omega arith in
    let before : slice_index (seed ++ xs) i ≡ slice_index (seed ++ ys) i = elim (cases_lt i 4) [
      | inl m ↦ get_or_append_left seed xs 0 i (omega arith) ∙ sym (get_or_append_left seed ys 0 i (omega arith))
      | inr m ↦ get_or-append_right seed xs 4 i 0 f m ∙ restored_to seed ds xs ys f p q n (omega arith) (i - 4) (omega arith) ∙ sym (get_or-append_right seed ys 4 i 0 f m)
    ] in
    p.step i k ∙ ap (λ x. (slice_index ds i + x) % 2 ^ 32) before ∙ sym (q.step i k)

pub same_restored : (seed ds xs ys : List ℕ) → length seed ≡ 4 → length xs ≡ 128 → length ys ≡ 128 → Restores seed ds xs → Restores seed ds ys → xs ≡ ys
same_restored seed ds xs ys f lx ly p q = ext_get_or 0 xs ys (lx ∙ sym ly) (λ i h. restored_to seed ds xs ys f p q 128 (omega arith) i (omega arith))

pub packed_below : (bytes : List ℕ) (b : ℕ) (ds : List ℕ) → b ≤ 32 → Packed bytes b ds → (i : ℕ) → i < 128 → slice_index ds i < 2 ^ 32
packed_below bytes b ds h p i k =
    let e : 2 ^ b ≤ 2 ^ 32 = pow_mono h in
    omega (arith, p.below i k, e)

pub restored_below : (seed ds xs : List ℕ) → Restores seed ds xs → (i : ℕ) → i < 128 → slice_index xs i < 2 ^ 32
restored_below seed ds xs r i k = omega (arith, r.step i k)

-- ---- a block that was read

pub is_good : (bytes : List ℕ) (at b : ℕ) (seed ds xs : List ℕ) → Orders seed → b ≤ 32 → at + 16 * b ≤ length bytes
    → Packed (part at (16 * b) bytes) b ds → NeedsBits b (differences seed xs) → Restores seed ds xs → length xs ≡ 128
    → ((i : ℕ) → i < 128 → slice_index (seed ++ xs) (3 + i) < slice_index xs i) → IsRightBlock bytes at b seed xs
is_good bytes at b seed ds xs o s h p least r lx up =
    let rises : Rises seed xs = record { step = up } in
    let bx = restored_below seed ds xs r in
    let same = are_differences seed ds xs o rises r p.count lx (packed_below (part at (16 * b) bytes) b ds s p) bx in
    record { small = s; room = h; long = lx; below = bx; rises = rises; block = record { packed = rw same at p; least = least } }

pub is_only : (bytes : List ℕ) (at b : ℕ) (seed ds ys : List ℕ) → Packed (part at (16 * b) bytes) b ds → IsRightBlock bytes at b seed ys → ds ≡ differences seed ys
is_only bytes at b seed ds ys p g = same_numbers _ b ds (differences seed ys) p g.block.packed

pub restored_is : (bytes : List ℕ) (at b : ℕ) (seed ds xs ys : List ℕ) → Orders seed → Packed (part at (16 * b) bytes) b ds → IsRightBlock bytes at b seed ys
    → Restores seed ds xs → length xs ≡ 128 → xs ≡ ys
restored_is bytes at b seed ds xs ys o p g r lx =
    let same = is_only bytes at b seed ds ys p g in
    let own : Restores seed ds ys = rw same (restores_differences seed ys o g.rises g.long g.below) in
    same_restored seed ds xs ys o.four lx g.long r own

-- ---- widths

-- one of the numbers is half of 2 ^ w at least
pub half_needs : (xs : List ℕ) (w i : ℕ) → 0 < w → i < 128 → 2 ^ (w - 1) ≤ slice_index xs i → NeedsBits w xs
half_needs xs w i some h l a f = elim (cases_lt (w - 1) a) [
  | inl m ↦ omega arith
  | inr m ↦ (let p : 2 ^ a ≤ 2 ^ (w - 1) = pow_mono m in absurd (omega (arith, p, l, f i h)))
]

-- a difference that was worked out is half of 2 ^ w at least, or below
pub half_is : (w half : ℕ) → 0 < w → w ≤ 32 → half ≡ 1 * 2 ^ (w - 1) % 2 ^ 32 → half ≡ 2 ^ (w - 1)
half_is w half some most e = e ∙ one_shl (w - 1) 32 (omega arith)
