-- What take knows after i bytes, and why a refusal is right.
use Rattle.std.proofs.Common.{◌≡◌, ◌≢◌, ℕ, ◌<◌, ◌≤◌, ◌+◌, ◌-◌, ◌*◌, ◌/◌, ◌%◌, ◌^◌, inl, inr, List, [], ◌∷◌, ◌++◌, length, take, drop, slice_index, arith, refl, sym, ap, ap₂, ◌∙◌, length-append, below_more}
use Rattle.std.specs.Int.Digits.{digits_of, number_from_digits}
use Rattle.std.proofs.lemmas.Bool.{cases_lt}
use Rattle.std.proofs.lemmas.List.{take_more, take_at, take-append-drop, append_assoc, length-take-le}
use Rattle.std.proofs.lemmas.Int.Digits.{length-digits_of-le, number_digits_of}
use Rattle.pk_vbyte.specs.declared.variable.VFault.{VFault}
use Rattle.pk_vbyte.specs.declared.variable.VFault.TheVariants.{Padded, Short, TooLarge}
use Rattle.pk_vbyte.specs.VariableByte.{vbyte, Takes, Runs, Exceeds, Refuses}
use Rattle.pk_vbyte.proofs.Digits.{digits_none, digits_push, vbyte_push}
use Rattle.pk_vbyte.proofs.Prefix.{more, length_vbyte, before_last, at_last, first_proper, same_first}

pub record SoFar (bytes : List ℕ) (i n : ℕ) : Type 0 where
  pub run : Runs bytes i
  pub digits : digits_of 128 n ≡ take i bytes
  pub some : 0 < i → 0 < n
  pub none : i ≤ 0 → n < 1
  pub one : i ≤ 1 → n < 128
  pub two : i ≤ 2 → n < 16384
  pub three : i ≤ 3 → n < 2097152
  pub four : i ≤ 4 → n < 268435456

pub nothing : (bytes : List ℕ) → (0 < length bytes → slice_index bytes 0 ≢ 0) → SoFar bytes 0 0
nothing bytes p = record {
  run = record { proper = p; within = omega arith; none = λ i h. absurd (omega arith) };
  digits = digits_none;
  some = λ h. omega arith;
  none = λ h. omega arith;
  one = λ h. omega arith;
  two = λ h. omega arith;
  three = λ h. omega arith;
  four = λ h. omega arith;
}

pub more_read : (bytes : List ℕ) (i n b : ℕ) → SoFar bytes i n → i < length bytes → b ≡ slice_index bytes i → b < 128
    → SoFar bytes (i + 1) (n * 128 + b)
more_read bytes i n b s h e l =
    let some : 0 < n * 128 + b = elim (cases_lt 0 i) [
      | inl p ↦ (let q = s.some p in omega arith)
      | inr z ↦ elim (cases_lt 0 b) [
        | inl p ↦ omega arith
        | inr y ↦ (let k : i ≡ 0 = omega arith in
            let f : slice_index bytes 0 ≡ 0 = ap (slice_index bytes) (sym k) ∙ sym e ∙ omega arith in
            absurd (s.run.proper (omega arith) f))
      ]
    ] in
    record {
      run = record {
        proper = s.run.proper;
        within = omega arith;
        none = below_more _ _ s.run.none (omega (arith, e));
      };
      digits = digits_push n b l some ∙ ap₂ (λ xs x. xs ++ (x ∷ [])) s.digits e ∙ sym (take_more bytes i 0 h);
      some = λ g. some;
      none = λ g. omega arith;
      one = λ g. (let p = s.none (omega arith) in omega arith);
      two = λ g. (let p = s.one (omega arith) in omega arith);
      three = λ g. (let p = s.two (omega arith) in omega arith);
      four = λ g. (let p = s.three (omega arith) in omega arith);
    }

pub ended : (bytes : List ℕ) (i n b : ℕ) → SoFar bytes i n → i < length bytes → b ≡ slice_index bytes i → 128 ≤ b → b < 256
    → n * 128 + (b - 128) < 2 ^ 32 → Takes bytes (n * 128 + (b - 128)) (i + 1)
ended bytes i n b s h e g f l =
    let back : b - 128 + 128 ≡ b = omega arith in
    let spelled : vbyte (n * 128 + (b - 128)) ≡ take (i + 1) bytes =
    vbyte_push n (b - 128) (omega arith) ∙ ap₂ (λ xs x. xs ++ (x ∷ [])) s.digits (back ∙ e) ∙ sym (take_more bytes i 0 h) in
    record {
      below = l;
      spelled = sym spelled;
      long = sym (ap length spelled ∙ length-take-le (i + 1) bytes (omega arith));
      within = omega arith;
    }

pub exceeded : (bytes : List ℕ) (i n b : ℕ) → SoFar bytes i n → i < length bytes → i < 5 → b ≡ slice_index bytes i → 128 ≤ b
    → 2 ^ 32 ≤ n * 128 + (b - 128) → Exceeds bytes
exceeded bytes i n b s h k e g l =
    let v : number_from_digits 128 (take i bytes) ≡ n = ap (number_from_digits 128) (sym s.digits) ∙ number_digits_of 128 n (omega arith) in
    record { k = i; before = s.run; few = k; there = h; last = omega (arith, e); value = omega (arith, e, v) }

pub only_taken : (bytes : List ℕ) (w k v : ℕ) (rest : List ℕ) → Takes bytes w k → bytes ≡ vbyte v ++ rest → (w ≡ v) × (k ≡ length (vbyte v))
only_taken bytes w k v rest t e =
    let own : vbyte w ++ drop k bytes ≡ bytes = ap (λ xs. xs ++ drop k bytes) (sym t.spelled) ∙ take-append-drop k bytes in
    let same = same_first w v (drop k bytes) rest (own ∙ e) in
    (same.0, t.long ∙ ap (λ x. length (vbyte x)) same.0)

few : (v : ℕ) → v < 2 ^ 32 → more v ≤ 4
few v h = length-digits_of-le 128 4 (v / 128) (omega arith) (omega arith)

run_ends : (bytes : List ℕ) (k v : ℕ) (rest : List ℕ) → Runs bytes k → bytes ≡ vbyte v ++ rest → k ≤ more v
run_ends bytes k v rest r e = elim (cases_lt (more v) k) [
  | inl l ↦ (let a = r.none (more v) l in let b = at_last v rest in let c = ap (λ xs. slice_index xs (more v)) e in absurd (omega (arith, a, b, c)))
  | inr m ↦ m
]

ends_at : (bytes : List ℕ) (k v : ℕ) (rest : List ℕ) → 128 ≤ slice_index bytes k → bytes ≡ vbyte v ++ rest → more v ≤ k
ends_at bytes k v rest r e = elim (cases_lt k (more v)) [
  | inl l ↦ (let b = before_last v rest k l in let c = ap (λ xs. slice_index xs k) e in absurd (omega (arith, r, b, c)))
  | inr m ↦ m
]

front : (v : ℕ) (rest : List ℕ) → take (more v) (vbyte v ++ rest) ≡ digits_of 128 (v / 128)
unfolding vbyte
front v rest =
    ap (take (more v)) (append_assoc (digits_of 128 (v / 128)) ((v % 128 + 128) ∷ []) rest)
    ∙ take_at (digits_of 128 (v / 128)) (((v % 128 + 128) ∷ []) ++ rest) (more v) refl

pub refused : (bytes : List ℕ) (f : VFault) (v : ℕ) (rest : List ℕ) → v < 2 ^ 32 → bytes ≡ vbyte v ++ rest → Refuses bytes f → ⊥
refused bytes Padded v rest h e r = first_proper v rest (ap (λ xs. slice_index xs 0) (sym e) ∙ r.1)
refused bytes Short v rest h e r =
    let a = run_ends bytes (length bytes) v rest r.1 e in
    let b = ap length e ∙ length-append (vbyte v) rest in
    omega (arith, a, b, length_vbyte v)
refused bytes TooLarge v rest h e (inl r) =
    let a = run_ends bytes 5 v rest r e in
    omega (arith, a, few v h)
refused bytes TooLarge v rest h e (inr x) =
    let a = run_ends bytes x.k v rest x.before e in
    let b = ends_at bytes x.k v rest x.last e in
    let k : x.k ≡ more v = omega arith in
    let t : take x.k bytes ≡ digits_of 128 (v / 128) = ap₂ take k e ∙ front v rest in
    let n : number_from_digits 128 (take x.k bytes) ≡ v / 128 = ap (number_from_digits 128) t ∙ number_digits_of 128 (v / 128) (omega arith) in
    let l : slice_index bytes x.k ≡ v % 128 + 128 = ap₂ slice_index e k ∙ at_last v rest in
    let big = x.value in
    omega (arith, n, l, big)

pub five : (P : List ℕ → Type 0) → ((a b c d e : ℕ) → P (a ∷ b ∷ c ∷ d ∷ e ∷ [])) → (xs : List ℕ) → length xs ≡ 5 → P xs
five P f [] h = absurd (omega arith)
five P f (a ∷ []) h = absurd (omega arith)
five P f (a ∷ b ∷ []) h = absurd (omega arith)
five P f (a ∷ b ∷ c ∷ []) h = absurd (omega arith)
five P f (a ∷ b ∷ c ∷ d ∷ []) h = absurd (omega arith)
five P f (a ∷ b ∷ c ∷ d ∷ e ∷ []) h = f a b c d e
five P f (a ∷ b ∷ c ∷ d ∷ e ∷ x ∷ xs) h = absurd (omega arith)
