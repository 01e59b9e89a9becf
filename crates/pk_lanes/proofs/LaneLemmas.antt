-- Lists of four lanes.
use Rattle.std.proofs.Common.{◌≡◌, ℕ, zero, suc, ◌<◌, ◌≤◌, ◌+◌, ◌-◌, ◌*◌, ◌/◌, ◌%◌, ◌^◌, List, [], ◌∷◌, length, slice_index, bit_or, bit_and, arith, refl}
use Rattle.std.specs.Simd.Lanes.{zip2}
use Rattle.pk_lanes.specs.Packed.{bit}
use Rattle.pk_lanes.proofs.BitLemmas.{masked_below, cut_bit, join_low, join_high, shift_low, shift_high, bit_shr}

-- what holds of each of the four lanes
pub below_four : (P : ℕ → Type 0) → P 0 → P 1 → P 2 → P 3 → (j : ℕ) → j < 4 → P j
below_four P p0 p1 p2 p3 zero h = p0
below_four P p0 p1 p2 p3 (suc zero) h = p1
below_four P p0 p1 p2 p3 (suc (suc zero)) h = p2
below_four P p0 p1 p2 p3 (suc (suc (suc zero))) h = p3
below_four P p0 p1 p2 p3 (suc (suc (suc (suc n)))) h = absurd (omega arith)

-- what holds of each list of four elements
pub four_lanes : (P : List ℕ → Type 0) → ((a b c d : ℕ) → P (a ∷ b ∷ c ∷ d ∷ [])) → (xs : List ℕ) → length xs ≡ 4 → P xs
four_lanes P p (a ∷ b ∷ c ∷ d ∷ []) h = p a b c d
four_lanes P p [] h = absurd (omega arith)
four_lanes P p (a ∷ []) h = absurd (omega arith)
four_lanes P p (a ∷ b ∷ []) h = absurd (omega arith)
four_lanes P p (a ∷ b ∷ c ∷ []) h = absurd (omega arith)
four_lanes P p (a ∷ b ∷ c ∷ d ∷ e ∷ xs) h = absurd (omega arith)

-- four times one number
abbrev pub same : ℕ → List ℕ
same n = n ∷ n ∷ n ∷ n ∷ []

abbrev pub mask : ℕ → ℕ
mask b = (2 ^ 32 - 1) / 2 ^ (32 - b)

abbrev pub cut_lanes : ℕ → ℕ → List ℕ → List ℕ
cut_lanes s b low = zip2 bit_and (zip2 (λ x n. x / 2 ^ n) low (same s)) (same (mask b))

abbrev pub join_lanes : ℕ → ℕ → List ℕ → List ℕ → List ℕ
join_lanes s b low high =
    zip2 bit_and (zip2 bit_or (zip2 (λ x n. x / 2 ^ n) low (same s)) (zip2 (λ x n. x * 2 ^ n % 2 ^ 32) high (same (32 - s)))) (same (mask b))

pub cut_below : (s b : ℕ) → b ≤ 32 → (low : List ℕ) → length low ≡ 4 → (c : ℕ) → c < 4 → slice_index (cut_lanes s b low) c < 2 ^ b
cut_below s b h =
    four_lanes (λ low. (c : ℕ) → c < 4 → slice_index (cut_lanes s b low) c < 2 ^ b) (λ x0 x1 x2 x3.
    below_four (λ c. slice_index (cut_lanes s b (x0 ∷ x1 ∷ x2 ∷ x3 ∷ [])) c < 2 ^ b)
    (masked_below (x0 / 2 ^ s) b h) (masked_below (x1 / 2 ^ s) b h) (masked_below (x2 / 2 ^ s) b h) (masked_below (x3 / 2 ^ s) b h))

pub cut_bits : (s b j : ℕ) → b ≤ 32 → j < b → (low : List ℕ) → length low ≡ 4 → (c : ℕ) → c < 4
    → bit (slice_index (cut_lanes s b low) c) j ≡ bit (slice_index low c) (s + j)
cut_bits s b j h k =
    four_lanes (λ low. (c : ℕ) → c < 4 → bit (slice_index (cut_lanes s b low) c) j ≡ bit (slice_index low c) (s + j)) (λ x0 x1 x2 x3.
    below_four (λ c. bit (slice_index (cut_lanes s b (x0 ∷ x1 ∷ x2 ∷ x3 ∷ [])) c) j ≡ bit (slice_index (x0 ∷ x1 ∷ x2 ∷ x3 ∷ []) c) (s + j))
    (cut_bit x0 s b j h k) (cut_bit x1 s b j h k) (cut_bit x2 s b j h k) (cut_bit x3 s b j h k))

pub join_below : (s b : ℕ) → b ≤ 32 → (low : List ℕ) → length low ≡ 4 → (high : List ℕ) → length high ≡ 4
    → (c : ℕ) → c < 4 → slice_index (join_lanes s b low high) c < 2 ^ b
join_below s b h =
    four_lanes (λ low. (high : List ℕ) → length high ≡ 4 → (c : ℕ) → c < 4 → slice_index (join_lanes s b low high) c < 2 ^ b) (λ x0 x1 x2 x3.
    four_lanes (λ high. (c : ℕ) → c < 4 → slice_index (join_lanes s b (x0 ∷ x1 ∷ x2 ∷ x3 ∷ []) high) c < 2 ^ b) (λ y0 y1 y2 y3.
    below_four (λ c. slice_index (join_lanes s b (x0 ∷ x1 ∷ x2 ∷ x3 ∷ []) (y0 ∷ y1 ∷ y2 ∷ y3 ∷ [])) c < 2 ^ b)
    (masked_below _ b h) (masked_below _ b h) (masked_below _ b h) (masked_below _ b h)))

pub join_lows : (s b j : ℕ) → b ≤ 32 → j < b → s + j < 32 → (low : List ℕ) → length low ≡ 4 → (high : List ℕ) → length high ≡ 4
    → (c : ℕ) → c < 4 → bit (slice_index (join_lanes s b low high) c) j ≡ bit (slice_index low c) (s + j)
join_lows s b j h k l =
    four_lanes (λ low. (high : List ℕ) → length high ≡ 4 → (c : ℕ) → c < 4
    → bit (slice_index (join_lanes s b low high) c) j ≡ bit (slice_index low c) (s + j)) (λ x0 x1 x2 x3.
    four_lanes (λ high. (c : ℕ) → c < 4
    → bit (slice_index (join_lanes s b (x0 ∷ x1 ∷ x2 ∷ x3 ∷ []) high) c) j ≡ bit (slice_index (x0 ∷ x1 ∷ x2 ∷ x3 ∷ []) c) (s + j)) (λ y0 y1 y2 y3.
    below_four (λ c. bit (slice_index (join_lanes s b (x0 ∷ x1 ∷ x2 ∷ x3 ∷ []) (y0 ∷ y1 ∷ y2 ∷ y3 ∷ [])) c) j ≡ bit (slice_index (x0 ∷ x1 ∷ x2 ∷ x3 ∷ []) c) (s + j))
    (join_low x0 y0 s b j h k l) (join_low x1 y1 s b j h k l) (join_low x2 y2 s b j h k l) (join_low x3 y3 s b j h k l)))

pub join_highs : (s b j : ℕ) → b ≤ 32 → j < b → s < 32 → 32 ≤ s + j → (low : List ℕ) → length low ≡ 4 → ((c : ℕ) → c < 4 → slice_index low c < 2 ^ 32) → (high : List ℕ) → length high ≡ 4
    → (c : ℕ) → c < 4 → bit (slice_index (join_lanes s b low high) c) j ≡ bit (slice_index high c) (s + j - 32)
join_highs s b j h k t l =
    four_lanes (λ low. ((c : ℕ) → c < 4 → slice_index low c < 2 ^ 32) → (high : List ℕ) → length high ≡ 4 → (c : ℕ) → c < 4
    → bit (slice_index (join_lanes s b low high) c) j ≡ bit (slice_index high c) (s + j - 32)) (λ x0 x1 x2 x3 f.
    four_lanes (λ high. (c : ℕ) → c < 4
    → bit (slice_index (join_lanes s b (x0 ∷ x1 ∷ x2 ∷ x3 ∷ []) high) c) j ≡ bit (slice_index high c) (s + j - 32)) (λ y0 y1 y2 y3.
    below_four (λ c. bit (slice_index (join_lanes s b (x0 ∷ x1 ∷ x2 ∷ x3 ∷ []) (y0 ∷ y1 ∷ y2 ∷ y3 ∷ [])) c) j ≡ bit (slice_index (y0 ∷ y1 ∷ y2 ∷ y3 ∷ []) c) (s + j - 32))
    (join_high x0 y0 s b j (f 0 (omega arith)) h k t l) (join_high x1 y1 s b j (f 1 (omega arith)) h k t l)
    (join_high x2 y2 s b j (f 2 (omega arith)) h k t l) (join_high x3 y3 s b j (f 3 (omega arith)) h k t l)))

abbrev pub shifted_lanes : ℕ → List ℕ → List ℕ → List ℕ
shifted_lanes s word x = zip2 bit_or word (zip2 (λ n t. n * 2 ^ t % 2 ^ 32) x (same s))

pub shifted_lows : (s q : ℕ) → s < 32 → q < s → (word : List ℕ) → length word ≡ 4 → (x : List ℕ) → length x ≡ 4
    → (c : ℕ) → c < 4 → bit (slice_index (shifted_lanes s word x) c) q ≡ bit (slice_index word c) q
shifted_lows s q h k =
    four_lanes (λ word. (x : List ℕ) → length x ≡ 4 → (c : ℕ) → c < 4
    → bit (slice_index (shifted_lanes s word x) c) q ≡ bit (slice_index word c) q) (λ x0 x1 x2 x3.
    four_lanes (λ x. (c : ℕ) → c < 4
    → bit (slice_index (shifted_lanes s (x0 ∷ x1 ∷ x2 ∷ x3 ∷ []) x) c) q ≡ bit (slice_index (x0 ∷ x1 ∷ x2 ∷ x3 ∷ []) c) q) (λ y0 y1 y2 y3.
    below_four (λ c. bit (slice_index (shifted_lanes s (x0 ∷ x1 ∷ x2 ∷ x3 ∷ []) (y0 ∷ y1 ∷ y2 ∷ y3 ∷ [])) c) q ≡ bit (slice_index (x0 ∷ x1 ∷ x2 ∷ x3 ∷ []) c) q)
    (shift_low x0 y0 s q k h) (shift_low x1 y1 s q k h) (shift_low x2 y2 s q k h) (shift_low x3 y3 s q k h)))

pub shifted_highs : (s q : ℕ) → s ≤ q → q < 32 → (word : List ℕ) → length word ≡ 4 → (x : List ℕ) → length x ≡ 4
    → (c : ℕ) → c < 4 → bit (slice_index word c) q ≡ 0 → bit (slice_index (shifted_lanes s word x) c) q ≡ bit (slice_index x c) (q - s)
shifted_highs s q h k =
    four_lanes (λ word. (x : List ℕ) → length x ≡ 4 → (c : ℕ) → c < 4 → bit (slice_index word c) q ≡ 0
    → bit (slice_index (shifted_lanes s word x) c) q ≡ bit (slice_index x c) (q - s)) (λ x0 x1 x2 x3.
    four_lanes (λ x. (c : ℕ) → c < 4 → bit (slice_index (x0 ∷ x1 ∷ x2 ∷ x3 ∷ []) c) q ≡ 0
    → bit (slice_index (shifted_lanes s (x0 ∷ x1 ∷ x2 ∷ x3 ∷ []) x) c) q ≡ bit (slice_index x c) (q - s)) (λ y0 y1 y2 y3.
    below_four (λ c. bit (slice_index (x0 ∷ x1 ∷ x2 ∷ x3 ∷ []) c) q ≡ 0
    → bit (slice_index (shifted_lanes s (x0 ∷ x1 ∷ x2 ∷ x3 ∷ []) (y0 ∷ y1 ∷ y2 ∷ y3 ∷ [])) c) q ≡ bit (slice_index (y0 ∷ y1 ∷ y2 ∷ y3 ∷ []) c) (q - s))
    (shift_high x0 y0 s q h k) (shift_high x1 y1 s q h k) (shift_high x2 y2 s q h k) (shift_high x3 y3 s q h k)))

pub rest_bits : (t q : ℕ) → (x : List ℕ) → length x ≡ 4 → (c : ℕ) → c < 4
    → bit (slice_index (zip2 (λ n t. n / 2 ^ t) x (same t)) c) q ≡ bit (slice_index x c) (t + q)
rest_bits t q =
    four_lanes (λ x. (c : ℕ) → c < 4 → bit (slice_index (zip2 (λ n t. n / 2 ^ t) x (same t)) c) q ≡ bit (slice_index x c) (t + q)) (λ x0 x1 x2 x3.
    below_four (λ c. bit (slice_index (zip2 (λ n t. n / 2 ^ t) (x0 ∷ x1 ∷ x2 ∷ x3 ∷ []) (same t)) c) q ≡ bit (slice_index (x0 ∷ x1 ∷ x2 ∷ x3 ∷ []) c) (t + q))
    (bit_shr x0 t q) (bit_shr x1 t q) (bit_shr x2 t q) (bit_shr x3 t q))

pub zero_lanes : (c : ℕ) → c < 4 → slice_index (same 0) c ≡ 0
zero_lanes = below_four (λ c. slice_index (same 0) c ≡ 0) refl refl refl refl
