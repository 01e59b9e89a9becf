-- The words of a block, by its bytes.
use Rattle.std.proofs.Common.{◌≡◌, ℕ, zero, suc, ◌<◌, ◌≤◌, ◌+◌, ◌-◌, ◌*◌, ◌/◌, ◌%◌, ◌^◌, List, [], ◌∷◌, length, slice_index, get_or, Fits, w8, w32, arith, refl, sym, ap, ◌∙◌}
use Rattle.std.specs.Simd.Lanes.{number_l, digits_l, chunk, put_chunk, Each1}
use Rattle.std.proofs.lemmas.Simd.{get_or_wider, get_or_narrower, get_or-put_chunk_at, get_or-put_chunk_below, chunk-fits, below_from_Fits, Each1-chunk, get_or-chunk, length-chunk}
use Rattle.std.proofs.lemmas.Nat.Bits.{bit_at_cat_low, bit_at_cat_high}
use Rattle.pk_lanes.proofs.BitLemmas.{byte_bit}
use Rattle.pk_lanes.specs.Packed.{bit, lane_bit}

-- bit j of a number is a bit of one of its bytes
pub number_bit : (xs : List ℕ) → Each1 (λ x. x < 256) xs → (i j : ℕ) → i < length xs → j < 8 → bit (number_l 256 xs) (8 * i + j) ≡ bit (get_or xs i 0) j
number_bit [] f i j h k = absurd (omega arith)
number_bit (x ∷ xs) f zero j h k =
    let plus : x + 256 * number_l 256 xs ≡ number_l 256 xs * 2 ^ 8 + x = omega arith in
    let place : 8 * 0 + j ≡ j = omega arith in
    ap (bit (x + 256 * number_l 256 xs)) place ∙ ap (λ n. bit n j) plus ∙ bit_at_cat_low (number_l 256 xs) 8 x j k
number_bit (x ∷ xs) f (suc i) j h k =
    let plus : x + 256 * number_l 256 xs ≡ number_l 256 xs * 2 ^ 8 + x = omega arith in
    let place : 8 * suc i + j - 8 ≡ 8 * i + j = omega arith in
    ap (λ n. bit n (8 * suc i + j)) plus ∙ bit_at_cat_high (number_l 256 xs) 8 x (8 * suc i + j) f.0 (omega arith)
    ∙ ap (bit (number_l 256 xs)) place ∙ number_bit xs f.1 i j (omega arith) k

-- bit j of word w of lane c
pub word_bit : (bytes : List ℕ) → ((k : ℕ) → Fits w8 (get_or bytes k 0)) → (w : ℕ) → 16 * w + 16 ≤ length bytes
    → (c j : ℕ) → c < 4 → j < 32
    → bit (slice_index (digits_l (2 ^ 32) 4 (number_l 256 (chunk (16 * w) 16 bytes))) c) j ≡ lane_bit bytes c (32 * w + j)
unfolding lane_bit
word_bit bytes fits w room c j hc hj =
    let all = chunk (16 * w) 16 bytes in
    let own : Each1 (λ x. x < 256) all = below_from_Fits w8 all (chunk-fits w8 (16 * w) 16 bytes fits) in
    let size = length-chunk (16 * w) 16 bytes room in
    let wide = get_or_wider 256 4 (2 ^ 32) 4 all c refl own hc in
    let four = chunk (4 * c) 4 all in
    let part : 8 * (j / 8) + j % 8 ≡ j = omega arith in
    let at = number_bit four (Each1-chunk _ (4 * c) 4 all own) (j / 8) (j % 8) (omega (arith, length-chunk (4 * c) 4 all (omega arith))) (omega arith) in
    let byte = get_or-chunk (4 * c) 4 all (j / 8) 0 (omega arith) ∙ get_or-chunk (16 * w) 16 bytes (4 * c + j / 8) 0 (omega arith) in
    let there : 16 * w + (4 * c + j / 8) ≡ 16 * ((32 * w + j) / 32) + 4 * c + (32 * w + j) % 32 / 8 = omega arith in
    let within : j % 8 ≡ (32 * w + j) % 8 = omega arith in
    ap (λ n. bit n j) wide
    ∙ ap (bit (number_l 256 four)) (sym part) ∙ at
    ∙ ap (λ n. bit n (j % 8)) (byte ∙ ap (λ p. get_or bytes p 0) there)
    ∙ ap (bit (get_or bytes (16 * ((32 * w + j) / 32) + 4 * c + (32 * w + j) % 32 / 8) 0)) within

-- the bytes of four words
abbrev pub stored : ℕ → List ℕ → List ℕ → List ℕ
stored w out words = put_chunk (16 * w) out (digits_l 256 16 (number_l (2 ^ 32) words))

pub stored_here : (w : ℕ) (out words : List ℕ) → 16 * w + 16 ≤ length out → Each1 (Fits w32) words
    → (c j : ℕ) → c < 4 → j < 32 → lane_bit (stored w out words) c (32 * w + j) ≡ bit (slice_index words c) j
unfolding lane_bit
stored_here w out words room fits c j hc hj =
    let there : 16 * ((32 * w + j) / 32) + 4 * c + (32 * w + j) % 32 / 8 ≡ 16 * w + (4 * c + j / 8) = omega arith in
    let within : (32 * w + j) % 8 ≡ j % 8 = omega arith in
    let ds = digits_l 256 16 (number_l (2 ^ 32) words) in
    let byte = get_or-put_chunk_at (16 * w) out ds (4 * c + j / 8) 0 (omega arith) room in
    let part = get_or_narrower (2 ^ 32) 4 256 16 words c (j / 8) refl (below_from_Fits w32 words fits) (omega arith) (omega arith) in
    let place : 8 * (j / 8) + j % 8 ≡ j = omega arith in
    ap (λ p. bit (get_or (stored w out words) p 0) ((32 * w + j) % 8)) there
    ∙ ap (bit (get_or (stored w out words) (16 * w + (4 * c + j / 8)) 0)) within
    ∙ ap (λ n. bit n (j % 8)) (byte ∙ part)
    ∙ byte_bit (get_or words c 0) (j / 8) (j % 8) (omega arith)
    ∙ ap (bit (get_or words c 0)) place

pub stored_before : (w : ℕ) (out words : List ℕ) → (c q : ℕ) → c < 4 → q < 32 * w → lane_bit (stored w out words) c q ≡ lane_bit out c q
unfolding lane_bit
stored_before w out words c q hc hq =
    ap (λ n. bit n (q % 8)) (get_or-put_chunk_below (16 * w) out (digits_l 256 16 (number_l (2 ^ 32) words)) (16 * (q / 32) + 4 * c + q % 32 / 8) 0 (omega arith))
