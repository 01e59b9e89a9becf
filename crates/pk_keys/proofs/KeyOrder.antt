-- Of two words that differ in their keys, the one with the lesser key is the lesser.
use Rattle.std.proofs.Common.{◌≡◌, inl, inr, ℕ, zero, suc, ◌+◌, ◌*◌, ◌^◌, ◌<◌, ◌≤◌, Ordering, List, [], ◌∷◌, slice_index, refl, sym, ap, ◌∙◌, arith}
use Rattle.std.proofs.Math.Nat.{mul-le-mul_right}
use Rattle.std.proofs.lemmas.Bool.{cases_lt, eq-eqb, le-ltb, lt-ltb, ne_eqb}
use Rattle.std.specs.Cmp.Lexicographic.{slice_cmp}
use Rattle.std.specs.Ordering.{ordering_then, nat_cmp}
use Rattle.std.specs.declared.cmp.Ordering.TheVariants.{Less, Greater, Equal}
use Rattle.byteorder.specs.Endian.{big_from}
use Rattle.byteorder.specs.Numbers.{big_from-cons, big_from-lt}
use Rattle.pk_keys.specs.Keys.{key_of}

below : (x y : ℕ) → x < y → nat_cmp x y ≡ Less
below x y lt = rw (lt-ltb x y lt) refl

above : (x y : ℕ) → y < x → nat_cmp x y ≡ Greater
above x y lt = rw (le-ltb x y (omega arith), ne_eqb x y (λ (e : x ≡ y). omega arith)) refl

level : (x y : ℕ) → x ≡ y → nat_cmp x y ≡ Equal
level x y e = rw (le-ltb x y (omega arith), eq-eqb x y e) refl

no_bytes : (i n : ℕ) → big_from i n [] ≡ 0
no_bytes i zero = refl
no_bytes i (suc n) = let rest = no_bytes (suc i) n in omega (arith, rest)

-- what the first bytes decide, and what they leave to the others
decides : (x y : ℕ) (xs ys : List ℕ) (o : Ordering) → nat_cmp x y ≡ o → slice_cmp nat_cmp (x ∷ xs) (y ∷ ys) ≡ ordering_then o (slice_cmp nat_cmp xs ys)
decides x y xs ys o e = ap (λ (a : Ordering). ordering_then a (slice_cmp nat_cmp xs ys)) e

-- the number of a list is its first byte's, and that of the others
first_byte : (n x : ℕ) (xs : List ℕ) → big_from 0 (suc n) (x ∷ xs) ≡ x * 256 ^ n + big_from 0 n xs
first_byte n x xs = ap (λ (r : ℕ). x * 256 ^ n + r) (big_from-cons 0 n x xs)

lesser_number : (n : ℕ) (v w : List ℕ) → ((k : ℕ) → slice_index w k < 256) → big_from 0 n v < big_from 0 n w
    → (slice_cmp nat_cmp v w ≡ Less) × (slice_cmp nat_cmp w v ≡ Greater)
lesser_number zero v w bytes lt = absurd (omega arith)
lesser_number (suc n) v [] bytes lt = let none = no_bytes 0 (suc n) in absurd (omega (arith, none))
lesser_number (suc n) [] (y ∷ ys) bytes lt = (refl, refl)
lesser_number (suc n) (x ∷ xs) (y ∷ ys) bytes lt =
    let a = first_byte n x xs in
    let b = first_byte n y ys in
    let top = big_from-lt 0 n ys (λ k. bytes (suc k)) in
    elim (cases_lt x y) [
      | inl less ↦ (decides x y xs ys Less (below x y less), decides y x ys xs Greater (above y x less))
      | inr more ↦ elim (cases_lt y x) [
        | inl less ↦
            let high : (y + 1) * 256 ^ n ≤ x * 256 ^ n = mul-le-mul_right (256 ^ n) (omega (arith, less)) in
            absurd (omega (arith, lt, a, b, top, high))
        | inr most ↦
            let same : x ≡ y = omega (arith, more, most) in
            let even = ap (λ (z : ℕ). z * 256 ^ n) same in
            let rest = lesser_number n xs ys (λ k. bytes (suc k)) (omega (arith, lt, a, b, even)) in
            (decides x y xs ys Equal (level x y same) ∙ rest.0, decides y x ys xs Equal (level y x (sym same)) ∙ rest.1)
      ]
    ]

-- a word of a lesser key is the lesser word
pub lesser_word : (v w : List ℕ) → ((k : ℕ) → slice_index w k < 256) → key_of v < key_of w → (slice_cmp nat_cmp v w ≡ Less) × (slice_cmp nat_cmp w v ≡ Greater)
lesser_word v w bytes lt = lesser_number 8 v w bytes lt
