-- Blocks and seeds of a list that grows.
use Rattle.std.proofs.Common.{◌≡◌, ℕ, zero, suc, ◌<◌, ◌≤◌, ◌+◌, ◌-◌, ◌*◌, inl, inr, List, ◌∷◌, ◌++◌, length, take, drop, slice_index, arith, refl, sym, ap, ◌∙◌, length-append, length-drop}
use Rattle.std.proofs.lemmas.Bool.{cases_lt}
use Rattle.std.proofs.lemmas.List.{ext_get_or, get_or_append_left, get_or-append_right, get_or-take, get_or-drop, length-take-le}
use Rattle.pk_posting.specs.Posting.{part, block, seed}

pub length_part : (at n : ℕ) (xs : List ℕ) → at + n ≤ length xs → length (part at n xs) ≡ n
length_part at n xs h = length-take-le n (drop at xs) (omega (arith, length-drop at xs))

pub get_part : (at n : ℕ) (xs : List ℕ) (i : ℕ) → i < n → slice_index (part at n xs) i ≡ slice_index xs (at + i)
get_part at n xs i h = get_or-take n (drop at xs) i 0 h ∙ get_or-drop at xs i 0

-- two lists agree below a place
abbrev pub Agree : ℕ → List ℕ → List ℕ → Type 0
Agree n xs ys = (i : ℕ) → i < n → slice_index xs i ≡ slice_index ys i

pub same_block : (k : ℕ) (xs ys : List ℕ) → Agree (128 * k + 128) xs ys → 128 * k + 128 ≤ length xs → 128 * k + 128 ≤ length ys → block k xs ≡ block k ys
same_block k xs ys f lx ly =
    ext_get_or 0 (block k xs) (block k ys) (length_part (128 * k) 128 xs lx ∙ sym (length_part (128 * k) 128 ys ly)) (λ i h.
    let l : i < 128 = omega (arith, length_part (128 * k) 128 xs lx) in
    get_part (128 * k) 128 xs i l ∙ f (128 * k + i) (omega arith) ∙ sym (get_part (128 * k) 128 ys i l))

-- the number four places before, where four zeros stand before the first
pub four_zeros : (xs : List ℕ) (i : ℕ) → slice_index (0 ∷ 0 ∷ 0 ∷ 0 ∷ xs) (4 + i) ≡ slice_index xs i
four_zeros xs i =
    let e : 4 + i ≡ suc (suc (suc (suc i))) = omega arith in
    ap (slice_index (0 ∷ 0 ∷ 0 ∷ 0 ∷ xs)) e

pub three_zeros : (xs : List ℕ) (i : ℕ) → slice_index (0 ∷ 0 ∷ 0 ∷ 0 ∷ xs) (3 + i) ≡ slice_index (0 ∷ xs) i
three_zeros xs i =
    let e : 3 + i ≡ suc (suc (suc i)) = omega arith in
    ap (slice_index (0 ∷ 0 ∷ 0 ∷ 0 ∷ xs)) e

pub one_zero : (xs : List ℕ) (i : ℕ) → slice_index (0 ∷ xs) (1 + i) ≡ slice_index xs i
one_zero xs i =
    let e : 1 + i ≡ suc i = omega arith in
    ap (slice_index (0 ∷ xs)) e

pub agree_zeros : (n : ℕ) (xs ys : List ℕ) → Agree n xs ys → Agree (4 + n) (0 ∷ 0 ∷ 0 ∷ 0 ∷ xs) (0 ∷ 0 ∷ 0 ∷ 0 ∷ ys)
agree_zeros n xs ys f zero h = refl
agree_zeros n xs ys f (suc zero) h = refl
agree_zeros n xs ys f (suc (suc zero)) h = refl
agree_zeros n xs ys f (suc (suc (suc zero))) h = refl
agree_zeros n xs ys f (suc (suc (suc (suc i)))) h = f i (omega arith)

pub length_seed : (k : ℕ) (xs : List ℕ) → 128 * k ≤ length xs → length (seed k xs) ≡ 4
length_seed k xs h = length_part (128 * k) 4 (0 ∷ 0 ∷ 0 ∷ 0 ∷ xs) (omega arith)

pub get_seed : (k : ℕ) (xs : List ℕ) (c : ℕ) → c < 4 → slice_index (seed k xs) c ≡ slice_index (0 ∷ 0 ∷ 0 ∷ 0 ∷ xs) (128 * k + c)
get_seed k xs c h = get_part (128 * k) 4 (0 ∷ 0 ∷ 0 ∷ 0 ∷ xs) c h

pub same_seed : (k : ℕ) (xs ys : List ℕ) → Agree (128 * k) xs ys → 128 * k ≤ length xs → 128 * k ≤ length ys → seed k xs ≡ seed k ys
same_seed k xs ys f lx ly = ext_get_or 0 (seed k xs) (seed k ys) (length_seed k xs lx ∙ sym (length_seed k ys ly)) (λ c h.
    let l : c < 4 = omega (arith, length_seed k xs lx) in
    get_seed k xs c l ∙ agree_zeros (128 * k) xs ys f (128 * k + c) (omega arith) ∙ sym (get_seed k ys c l))

-- the seed after a block is its last four
pub seed_after : (k : ℕ) (out xs : List ℕ) (c : ℕ) → length out ≡ 128 * k → c < 4
    → slice_index (seed (k + 1) (out ++ xs)) c ≡ slice_index xs (124 + c)
seed_after k out xs c l h =
    let e : 128 * (k + 1) + c ≡ 4 + (128 * k + 124 + c) = omega arith in
    let d : 128 * k + 124 + c - 128 * k ≡ 124 + c = omega arith in
    get_seed (k + 1) (out ++ xs) c h ∙ ap (slice_index (0 ∷ 0 ∷ 0 ∷ 0 ∷ (out ++ xs))) e ∙ four_zeros (out ++ xs) (128 * k + 124 + c)
    ∙ get_or-append_right out xs (128 * k) (128 * k + 124 + c) 0 l (omega arith) ∙ ap (slice_index xs) d

pub agree_append : (n : ℕ) (out xs : List ℕ) → n ≤ length out → Agree n (out ++ xs) out
agree_append n out xs h i l = get_or_append_left out xs 0 i (omega arith)

pub block_appended : (k : ℕ) (out xs : List ℕ) → length out ≡ 128 * k → length xs ≡ 128 → block k (out ++ xs) ≡ xs
block_appended k out xs l m =
    let size : 128 * k + 128 ≤ length (out ++ xs) = omega (arith, length-append out xs) in
    ext_get_or 0 (block k (out ++ xs)) xs (length_part (128 * k) 128 (out ++ xs) size ∙ sym m) (λ i h.
    let b : i < 128 = omega (arith, length_part (128 * k) 128 (out ++ xs) size) in
    let d : 128 * k + i - 128 * k ≡ i = omega arith in
    get_part (128 * k) 128 (out ++ xs) i b ∙ get_or-append_right out xs (128 * k) (128 * k + i) 0 l (omega arith) ∙ ap (slice_index xs) d)

-- one block more of a list that was read
pub take_block : (k : ℕ) (xs : List ℕ) → 128 * k + 128 ≤ length xs → take (128 * (k + 1)) xs ≡ take (128 * k) xs ++ block k xs
take_block k xs h =
    let t = length-take-le (128 * (k + 1)) xs (omega arith) in
    let a = length-take-le (128 * k) xs (omega arith) in
    let b = length_part (128 * k) 128 xs h in
    ext_get_or 0 (take (128 * (k + 1)) xs) (take (128 * k) xs ++ block k xs) (omega (arith, t, a, b, length-append (take (128 * k) xs) (block k xs))) (λ i l.
    let m : i < 128 * (k + 1) = omega (arith, t) in
    get_or-take (128 * (k + 1)) xs i 0 m ∙ elim (cases_lt i (128 * k)) [
      | inl n ↦ sym (get_or_append_left (take (128 * k) xs) (block k xs) 0 i (omega (arith, a)) ∙ get_or-take (128 * k) xs i 0 n)
      | inr n ↦ (let e : 128 * k + (i - 128 * k) ≡ i = omega arith in
          sym (get_or-append_right (take (128 * k) xs) (block k xs) (128 * k) i 0 a n ∙ get_part (128 * k) 128 xs (i - 128 * k) (omega arith) ∙ ap (slice_index xs) e))
    ])

pub agree_take : (n : ℕ) (xs out : List ℕ) → take n xs ≡ out → Agree n xs out
agree_take n xs out e i h = sym (get_or-take n xs i 0 h) ∙ ap (λ ys. slice_index ys i) e
