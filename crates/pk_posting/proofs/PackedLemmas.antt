-- The packed block of 128 numbers: `packed_bytes` is one.
use Rattle.std.proofs.Common.{◌≡◌, ℕ, zero, suc, ◌<◌, ◌≤◌, ◌+◌, ◌*◌, ◌/◌, ◌%◌, ◌^◌, inl, inr, List, length, slice_index, arith, refl, sym, ap, ap₂, ◌∙◌}
use Rattle.std.proofs.lemmas.Bool.{cases_lt}
use Rattle.std.proofs.lemmas.List.{get_or_past}
use Rattle.std.proofs.lemmas.List.FromFn.{length-map-range_with_len, get_or-map-range_with_len}
use Rattle.std.proofs.lemmas.Nat.{div-mul-add, mod-mul-add, mul-le}
use Rattle.std.proofs.lemmas.Nat.Bits.{bit_at-lt}
use Rattle.pk_lanes.specs.Packed.{Packed, bit, lane_bit}
use Rattle.pk_lanes.proofs.CallerLemmas.{same_bytes}
use Rattle.pk_posting.specs.Spelling.{bit_in_lane, packed_bit, packed_byte, packed_bytes}

-- the bits of a byte that is a sum of eight
bits_are : (f : ℕ → ℕ) (n : ℕ) → ((i : ℕ) → f i < 2)
    → n ≡ f 0 + 2 * f 1 + 4 * f 2 + 8 * f 3 + 16 * f 4 + 32 * f 5 + 64 * f 6 + 128 * f 7 → (r : ℕ) → r < 8 → bit n r ≡ f r
bits_are f n l e zero h = omega (arith, e, l 0, l 1, l 2, l 3, l 4, l 5, l 6, l 7)
bits_are f n l e (suc zero) h = omega (arith, e, l 0, l 1, l 2, l 3, l 4, l 5, l 6, l 7)
bits_are f n l e (suc (suc zero)) h = omega (arith, e, l 0, l 1, l 2, l 3, l 4, l 5, l 6, l 7)
bits_are f n l e (suc (suc (suc zero))) h = omega (arith, e, l 0, l 1, l 2, l 3, l 4, l 5, l 6, l 7)
bits_are f n l e (suc (suc (suc (suc zero)))) h = omega (arith, e, l 0, l 1, l 2, l 3, l 4, l 5, l 6, l 7)
bits_are f n l e (suc (suc (suc (suc (suc zero))))) h = omega (arith, e, l 0, l 1, l 2, l 3, l 4, l 5, l 6, l 7)
bits_are f n l e (suc (suc (suc (suc (suc (suc zero)))))) h = omega (arith, e, l 0, l 1, l 2, l 3, l 4, l 5, l 6, l 7)
bits_are f n l e (suc (suc (suc (suc (suc (suc (suc zero))))))) h = omega (arith, e, l 0, l 1, l 2, l 3, l 4, l 5, l 6, l 7)
bits_are f n l e (suc (suc (suc (suc (suc (suc (suc (suc r)))))))) h = absurd (omega arith)

sum_below : (f : ℕ → ℕ) (n : ℕ) → ((i : ℕ) → f i < 2)
    → n ≡ f 0 + 2 * f 1 + 4 * f 2 + 8 * f 3 + 16 * f 4 + 32 * f 5 + 64 * f 6 + 128 * f 7 → n < 256
sum_below f n l e = omega (arith, e, l 0, l 1, l 2, l 3, l 4, l 5, l 6, l 7)

byte_bit : (b : ℕ) (xs : List ℕ) (p r : ℕ) → r < 8 → bit (packed_byte b xs p) r ≡ packed_bit b xs p r
unfolding packed_byte
byte_bit b xs p r h = bits_are (packed_bit b xs p) _ (λ i. bit_at-lt _ _) refl r h

byte_below : (b : ℕ) (xs : List ℕ) (p : ℕ) → packed_byte b xs p < 256
unfolding packed_byte
byte_below b xs p = sum_below (packed_bit b xs p) _ (λ i. bit_at-lt _ _) refl

pub length_packed : (b : ℕ) (xs : List ℕ) → length (packed_bytes b xs) ≡ 16 * b
unfolding packed_bytes
length_packed b xs = length-map-range_with_len (packed_byte b xs) 0 (16 * b)

packed_at : (b : ℕ) (xs : List ℕ) (i : ℕ) → i < 16 * b → slice_index (packed_bytes b xs) i ≡ packed_byte b xs i
unfolding packed_bytes
packed_at b xs i h = get_or-map-range_with_len (packed_byte b xs) 0 (16 * b) i i 0 h (omega arith)

pub packed_below : (b : ℕ) (xs : List ℕ) (i : ℕ) → slice_index (packed_bytes b xs) i < 256
packed_below b xs i = elim (cases_lt i (16 * b)) [
  | inl l ↦ (let a = packed_at b xs i l in omega (arith, a, byte_below b xs i))
  | inr m ↦ (let a = get_or_past (packed_bytes b xs) i 0 (omega (arith, length_packed b xs)) in omega (arith, a))
]

-- a bit of a lane
in_lane : (b : ℕ) (xs : List ℕ) (c q : ℕ) → c < 4 → q < 32 * b → lane_bit (packed_bytes b xs) c q ≡ bit_in_lane b xs c q
unfolding lane_bit
in_lane b xs c q hc hq =
    let p = 16 * (q / 32) + 4 * c + q % 32 / 8 in
    let here : p < 16 * b = omega arith in
    let row : 32 * (p / 16) + 8 * (p % 4) + q % 8 ≡ q = omega arith in
    let lane : p % 16 / 4 ≡ c = omega arith in
    ap (λ n. bit n (q % 8)) (packed_at b xs p here) ∙ byte_bit b xs p (q % 8) (omega arith) ∙ ap₂ (bit_in_lane b xs) lane row

-- numbers of at most b bits are packed so
pub packs : (b : ℕ) (xs : List ℕ) → length xs ≡ 128 → ((i : ℕ) → i < 128 → slice_index xs i < 2 ^ b) → Packed (packed_bytes b xs) b xs
packs b xs long below = record {
  size = length_packed b xs;
  count = long;
  below = below;
  bits = λ i j h k. (
      let c : i % 4 < 4 = omega arith in
      let row : i / 4 + 1 ≤ 32 = omega arith in
      let most : (i / 4 + 1) * b ≤ 32 * b = mul-le (i / 4 + 1) b 32 b row (omega arith) in
      let q : i / 4 * b + j < 32 * b = omega arith in
      let number : 4 * ((i / 4 * b + j) / b) + i % 4 ≡ i = (let d = div-mul-add (i / 4) b j k in omega arith) in
      let place : (i / 4 * b + j) % b ≡ j = mod-mul-add (i / 4) b j k in
      sym (in_lane b xs (i % 4) (i / 4 * b + j) c q ∙ ap₂ (λ m n. bit (slice_index xs m) n) number place));
}

-- what packs them is these bytes
pub packed_is : (bytes : List ℕ) (b : ℕ) (xs : List ℕ) → ((i : ℕ) → slice_index bytes i < 256) → Packed bytes b xs → bytes ≡ packed_bytes b xs
packed_is bytes b xs f p = same_bytes bytes (packed_bytes b xs) b xs p (packs b xs p.count p.below) f (packed_below b xs)
