-- Bits of numbers that are shifted, cut and joined.
use Rattle.std.proofs.Common.{◌≡◌, ℕ, zero, suc, ◌<◌, ◌≤◌, ◌+◌, ◌-◌, ◌*◌, ◌/◌, ◌%◌, ◌^◌, bit_or, bit_and, arith, refl, sym, ap, ◌∙◌}
use Rattle.std.proofs.lemmas.Nat.{shr-shr, shr_split, and_mask, pow_pos, pow-add}
use Rattle.std.proofs.lemmas.Nat.Bits.{bit_at_cat_low, bit_at_cat_high, bit_at-zero, bit_at_or, bit_at_above, ones_shr}
use Rattle.pk_lanes.specs.Packed.{bit}

pub bit_shr : (n s j : ℕ) → bit (n / 2 ^ s) j ≡ bit n (s + j)
bit_shr n s j = ap (λ x. x % 2) (shr-shr n s j)

pub bit_mod : (n b j : ℕ) → j < b → bit (n % 2 ^ b) j ≡ bit n j
bit_mod n b j h =
    sym (bit_at_cat_low (n / 2 ^ b) b (n % 2 ^ b) j h) ∙ ap (λ x. bit x j) (shr_split n b)

pub bit_shl_low : (n t w j : ℕ) → j < t → j < w → bit (n * 2 ^ t % 2 ^ w) j ≡ 0
bit_shl_low n t w j h k =
    let plus : n * 2 ^ t + 0 ≡ n * 2 ^ t = omega arith in
    bit_mod (n * 2 ^ t) w j k ∙ ap (λ x. bit x j) (sym plus) ∙ bit_at_cat_low n t 0 j h ∙ bit_at-zero j

pub bit_shl_high : (n t w j : ℕ) → t ≤ j → j < w → bit (n * 2 ^ t % 2 ^ w) j ≡ bit n (j - t)
bit_shl_high n t w j h k =
    let plus : n * 2 ^ t + 0 ≡ n * 2 ^ t = omega arith in
    bit_mod (n * 2 ^ t) w j k ∙ ap (λ x. bit x j) (sym plus) ∙ bit_at_cat_high n t 0 j (pow_pos t) h

-- the mask of the low b bits
pub mask_is : (b : ℕ) → b ≤ 32 → (2 ^ 32 - 1) / 2 ^ (32 - b) ≡ 2 ^ b - 1
mask_is b h =
    let back : 32 - (32 - b) ≡ b = omega arith in
    ones_shr 32 (32 - b) (omega arith) ∙ ap (λ k. 2 ^ k - 1) back

pub and_mask_is : (n b : ℕ) → b ≤ 32 → bit_and n ((2 ^ 32 - 1) / 2 ^ (32 - b)) ≡ n % 2 ^ b
and_mask_is n b h = ap (λ m. bit_and n m) (mask_is b h) ∙ and_mask n b

pub masked_below : (n b : ℕ) → b ≤ 32 → bit_and n ((2 ^ 32 - 1) / 2 ^ (32 - b)) < 2 ^ b
masked_below n b h = omega (arith, and_mask_is n b h, pow_pos b)

pub cut_bit : (n s b j : ℕ) → b ≤ 32 → j < b → bit (bit_and (n / 2 ^ s) ((2 ^ 32 - 1) / 2 ^ (32 - b))) j ≡ bit n (s + j)
cut_bit n s b j h k =
    ap (λ x. bit x j) (and_mask_is (n / 2 ^ s) b h) ∙ bit_mod (n / 2 ^ s) b j k ∙ bit_shr n s j

pub join_low : (m n s b j : ℕ) → b ≤ 32 → j < b → s + j < 32
    → bit (bit_and (bit_or (m / 2 ^ s) (n * 2 ^ (32 - s) % 2 ^ 32)) ((2 ^ 32 - 1) / 2 ^ (32 - b))) j ≡ bit m (s + j)
join_low m n s b j h k l =
    let x = bit_or (m / 2 ^ s) (n * 2 ^ (32 - s) % 2 ^ 32) in
    let none : bit (n * 2 ^ (32 - s) % 2 ^ 32) j ≡ 0 = bit_shl_low n (32 - s) 32 j (omega arith) (omega arith) in
    let or = bit_at_or (m / 2 ^ s) (n * 2 ^ (32 - s) % 2 ^ 32) j in
    let one = bit_shr m s j in
    ap (λ x. bit x j) (and_mask_is x b h) ∙ bit_mod x b j k ∙ omega (arith, none, or, one)

pub join_high : (m n s b j : ℕ) → m < 2 ^ 32 → b ≤ 32 → j < b → s < 32 → 32 ≤ s + j
    → bit (bit_and (bit_or (m / 2 ^ s) (n * 2 ^ (32 - s) % 2 ^ 32)) ((2 ^ 32 - 1) / 2 ^ (32 - b))) j ≡ bit n (s + j - 32)
join_high m n s b j f h k t l =
    let x = bit_or (m / 2 ^ s) (n * 2 ^ (32 - s) % 2 ^ 32) in
    let place : j - (32 - s) ≡ s + j - 32 = omega arith in
    let high : bit (n * 2 ^ (32 - s) % 2 ^ 32) j ≡ bit n (s + j - 32) =
    bit_shl_high n (32 - s) 32 j (omega arith) (omega arith) ∙ ap (bit n) place in
    let or = bit_at_or (m / 2 ^ s) (n * 2 ^ (32 - s) % 2 ^ 32) j in
    let none = bit_shr m s j ∙ bit_at_above m 32 (s + j) f l in
    ap (λ x. bit x j) (and_mask_is x b h) ∙ bit_mod x b j k ∙ omega (arith, none, or, high)

pub shift_low : (m n s q : ℕ) → q < s → s < 32 → bit (bit_or m (n * 2 ^ s % 2 ^ 32)) q ≡ bit m q
shift_low m n s q h k =
    let or = bit_at_or m (n * 2 ^ s % 2 ^ 32) q in
    let none = bit_shl_low n s 32 q h (omega arith) in
    omega (arith, or, none)

pub shift_high : (m n s q : ℕ) → s ≤ q → q < 32 → bit m q ≡ 0 → bit (bit_or m (n * 2 ^ s % 2 ^ 32)) q ≡ bit n (q - s)
shift_high m n s q h k clear =
    let or = bit_at_or m (n * 2 ^ s % 2 ^ 32) q in
    let high = bit_shl_high n s 32 q h k in
    omega (arith, or, high, clear)

power : (i : ℕ) → 256 ^ i ≡ 2 ^ (8 * i)
power zero = refl
power (suc i) =
    let one : suc i ≡ i + 1 = omega arith in
    let eight : 8 * i + 8 ≡ 8 * suc i = omega arith in
    ap (λ n. 256 ^ n) one ∙ pow-add 256 i 1 ∙ ap (λ n. n * 256) (power i) ∙ sym (pow-add 2 (8 * i) 8) ∙ ap (λ n. 2 ^ n) eight

-- the byte i of a number
pub byte_bit : (n i r : ℕ) → r < 8 → bit (n / 256 ^ i % 256) r ≡ bit n (8 * i + r)
byte_bit n i r h =
    let power : 256 ^ i ≡ 2 ^ (8 * i) = power i in
    bit_mod (n / 256 ^ i) 8 r h ∙ ap (λ m. bit (n / m) r) power ∙ bit_shr n (8 * i) r
