-- Variable bytes by their digits.
use Rattle.std.proofs.Common.{◌≡◌, ℕ, ◌<◌, ◌≤◌, ◌+◌, ◌*◌, ◌/◌, ◌%◌, [], ◌∷◌, ◌++◌, arith, refl, ap, ap₂, ◌∙◌}
use Rattle.std.specs.Int.Digits.{digits_of}
use Rattle.std.proofs.lemmas.Int.Digits.{digits_of_step}
use Rattle.pk_vbyte.specs.VariableByte.{vbyte}

pub digits_none : digits_of 128 0 ≡ []
digits_none = refl

pub digits_push : (n d : ℕ) → d < 128 → 0 < n * 128 + d → digits_of 128 (n * 128 + d) ≡ digits_of 128 n ++ (d ∷ [])
digits_push n d h s =
    let a : (n * 128 + d) / 128 ≡ n = omega arith in
    let b : (n * 128 + d) % 128 ≡ d = omega arith in
    digits_of_step 128 (n * 128 + d) (omega arith) s ∙ ap₂ (λ x y. digits_of 128 x ++ (y ∷ [])) a b

pub digits_one : (d : ℕ) → d < 128 → 0 < d → digits_of 128 d ≡ d ∷ []
digits_one d h s =
    let e : d ≡ 0 * 128 + d = omega arith in
    ap (digits_of 128) e ∙ digits_push 0 d h (omega arith)

pub vbyte_push : (n d : ℕ) → d < 128 → vbyte (n * 128 + d) ≡ digits_of 128 n ++ ((d + 128) ∷ [])
unfolding vbyte
vbyte_push n d h =
    let a : (n * 128 + d) / 128 ≡ n = omega arith in
    let b : (n * 128 + d) % 128 ≡ d = omega arith in
    ap₂ (λ x y. digits_of 128 x ++ ((y + 128) ∷ [])) a b

two : (a b : ℕ) → a < 128 → 0 < a → b < 128 → digits_of 128 (a * 128 + b) ≡ a ∷ b ∷ []
two a b ha s hb = digits_push a b hb (omega arith) ∙ ap (λ x. x ++ (b ∷ [])) (digits_one a ha s)

three : (a b c : ℕ) → a < 128 → 0 < a → b < 128 → c < 128 → digits_of 128 ((a * 128 + b) * 128 + c) ≡ a ∷ b ∷ c ∷ []
three a b c ha s hb hc = digits_push (a * 128 + b) c hc (omega arith) ∙ ap (λ x. x ++ (c ∷ [])) (two a b ha s hb)

four : (a b c d : ℕ) → a < 128 → 0 < a → b < 128 → c < 128 → d < 128 → digits_of 128 (((a * 128 + b) * 128 + c) * 128 + d) ≡ a ∷ b ∷ c ∷ d ∷ []
four a b c d ha s hb hc hd = digits_push ((a * 128 + b) * 128 + c) d hd (omega arith) ∙ ap (λ x. x ++ (d ∷ [])) (three a b c ha s hb hc)

pub vbyte_1 : (n : ℕ) → n < 128 → vbyte n ≡ (n % 128 + 128) ∷ []
unfolding vbyte
vbyte_1 n h = let e : n / 128 ≡ 0 = omega arith in ap (λ x. digits_of 128 x ++ ((n % 128 + 128) ∷ [])) e

pub vbyte_2 : (n : ℕ) → 128 ≤ n → n < 16384 → vbyte n ≡ n / 128 % 128 ∷ (n % 128 + 128) ∷ []
unfolding vbyte
vbyte_2 n l h =
    let e : n / 128 ≡ n / 128 % 128 = omega arith in
    ap (λ x. digits_of 128 x ++ ((n % 128 + 128) ∷ [])) e
    ∙ ap (λ x. x ++ ((n % 128 + 128) ∷ [])) (digits_one (n / 128 % 128) (omega arith) (omega arith))

pub vbyte_3 : (n : ℕ) → 16384 ≤ n → n < 2097152 → vbyte n ≡ n / 16384 % 128 ∷ n / 128 % 128 ∷ (n % 128 + 128) ∷ []
unfolding vbyte
vbyte_3 n l h =
    let e : n / 128 ≡ n / 16384 % 128 * 128 + n / 128 % 128 = omega arith in
    ap (λ x. digits_of 128 x ++ ((n % 128 + 128) ∷ [])) e
    ∙ ap (λ x. x ++ ((n % 128 + 128) ∷ [])) (two (n / 16384 % 128) (n / 128 % 128) (omega arith) (omega arith) (omega arith))

pub vbyte_4 : (n : ℕ) → 2097152 ≤ n → n < 268435456 → vbyte n ≡ n / 2097152 % 128 ∷ n / 16384 % 128 ∷ n / 128 % 128 ∷ (n % 128 + 128) ∷ []
unfolding vbyte
vbyte_4 n l h =
    let e : n / 128 ≡ (n / 2097152 % 128 * 128 + n / 16384 % 128) * 128 + n / 128 % 128 = omega arith in
    ap (λ x. digits_of 128 x ++ ((n % 128 + 128) ∷ [])) e
    ∙ ap (λ x. x ++ ((n % 128 + 128) ∷ [])) (three (n / 2097152 % 128) (n / 16384 % 128) (n / 128 % 128) (omega arith) (omega arith) (omega arith) (omega arith))

pub vbyte_5 : (n : ℕ) → 268435456 ≤ n → n < 4294967296 → vbyte n ≡ n / 268435456 ∷ n / 2097152 % 128 ∷ n / 16384 % 128 ∷ n / 128 % 128 ∷ (n % 128 + 128) ∷ []
unfolding vbyte
vbyte_5 n l h =
    let e : n / 128 ≡ ((n / 268435456 * 128 + n / 2097152 % 128) * 128 + n / 16384 % 128) * 128 + n / 128 % 128 = omega arith in
    ap (λ x. digits_of 128 x ++ ((n % 128 + 128) ∷ [])) e
    ∙ ap (λ x. x ++ ((n % 128 + 128) ∷ [])) (four (n / 268435456) (n / 2097152 % 128) (n / 16384 % 128) (n / 128 % 128) (omega arith) (omega arith) (omega arith) (omega arith) (omega arith))
