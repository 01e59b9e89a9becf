-- What callers cite: the bytes of a number, and what `taken` makes of them.
use Rattle.std.proofs.Common.{◌≡◌, ℕ, zero, suc, ◌<◌, ◌≤◌, ◌+◌, ◌-◌, ◌*◌, ◌/◌, ◌^◌, List, [], ◌∷◌, ◌++◌, min, length, take, slice_index, arith, refl, sym, ap, ◌∙◌, subst, inl, inr, Result, Ok, Err, nat_lt, nat_eq, if◌then◌else◌}
use Rattle.std.proofs.lemmas.Bool.{cases_lt, cases_Bool, cond-true, cond-false}
use Rattle.std.proofs.lemmas.List.{append-nil, get_or_past, take_all, take_min}
use Rattle.std.proofs.lemmas.Int.Digits.{length-digits_of-le}
use Rattle.pk_vbyte.specs.declared.variable.VFault.{VFault}
use Rattle.pk_vbyte.specs.declared.variable.VFault.TheVariants.{Padded}
use Rattle.pk_vbyte.specs.VariableByte.{vbyte, Takes, taken, taken_on, ended}
use Rattle.pk_vbyte.proofs.Prefix.{more, length_vbyte, before_last, at_last}
use Rattle.pk_vbyte.proofs.Reading.{Answers, sound, exact_taken}

-- a number has one to five bytes
pub some_bytes : (v : ℕ) → 0 < length (vbyte v)
some_bytes v = omega (arith, length_vbyte v)

pub most_bytes : (v : ℕ) → v < 2 ^ 32 → length (vbyte v) ≤ 5
most_bytes v h = let d = length-digits_of-le 128 4 (v / 128) (omega arith) (omega arith) in omega (arith, length_vbyte v, d)

-- each of them is a byte
pub byte_vbyte : (v i : ℕ) → slice_index (vbyte v) i < 256
byte_vbyte v i =
    let same : slice_index (vbyte v ++ []) i ≡ slice_index (vbyte v) i = ap (λ xs. slice_index xs i) (append-nil (vbyte v)) in
    elim (cases_lt i (more v)) [
      | inl l ↦ (let b = before_last v [] i l in omega (arith, b, same))
      | inr m ↦ elim (cases_lt (more v) i) [
        | inl l ↦ (let p = get_or_past (vbyte v) i 0 (omega (arith, length_vbyte v)) in omega (arith, p))
        | inr n ↦ (let e : i ≡ more v = omega arith in let a = at_last v [] in
            let s : slice_index (vbyte v ++ []) i ≡ slice_index (vbyte v ++ []) (more v) = ap (slice_index (vbyte v ++ [])) e in
            omega (arith, a, s, same))
      ]
    ]

-- more bytes change no number that was taken
taken_on_longer : (left n k : ℕ) (xs ys : List ℕ) (r : ℕ × ℕ) → taken_on left n k xs ≡ Ok r → taken_on left n k (xs ++ ys) ≡ Ok r
unfolding taken_on
taken_on_longer zero n k xs ys r h = h
taken_on_longer (suc left) n k [] ys r h = cc
taken_on_longer (suc left) n k (b ∷ xs) ys r h =
    let long = taken_on left (n * 128 + b) (k + 1) (xs ++ ys) in
    let short = taken_on left (n * 128 + b) (k + 1) xs in
    let last = ended (n * 128 + (b - 128)) (k + 1) in
    elim (cases_Bool (nat_lt b 128)) [
      | inl t ↦ cond-true (nat_lt b 128) long last t
          ∙ taken_on_longer left (n * 128 + b) (k + 1) xs ys r (sym (cond-true (nat_lt b 128) short last t) ∙ h)
      | inr f ↦ cond-false (nat_lt b 128) long last f ∙ sym (cond-false (nat_lt b 128) short last f) ∙ h
    ]

pub taken_longer : (xs ys : List ℕ) (r : ℕ × ℕ) → taken xs ≡ Ok r → taken (xs ++ ys) ≡ Ok r
unfolding taken
taken_longer [] ys r h = cc
taken_longer (b ∷ xs) ys r h =
    let long = taken_on 5 0 0 ((b ∷ xs) ++ ys) in
    let short = taken_on 5 0 0 (b ∷ xs) in
    elim (cases_Bool (nat_eq b 0)) [
      | inl t ↦ cond-true (nat_eq b 0) (Err Padded) long t ∙ sym (cond-true (nat_eq b 0) (Err Padded) short t) ∙ h
      | inr f ↦ cond-false (nat_eq b 0) (Err Padded) long f
          ∙ taken_on_longer 5 0 0 (b ∷ xs) ys r (sym (cond-false (nat_eq b 0) (Err Padded) short f) ∙ h)
    ]

-- a number that is spelled is taken, whatever follows it
pub taken_vbyte : (v : ℕ) (rest : List ℕ) → v < 2 ^ 32 → taken (vbyte v ++ rest) ≡ Ok (v, length (vbyte v))
taken_vbyte v rest h =
    let own : Takes (vbyte v) v (length (vbyte v)) = record {
      below = h;
      spelled = take_all (length (vbyte v)) (vbyte v) (omega arith);
      long = refl;
      within = omega arith;
    } in
    taken_longer (vbyte v) rest (v, length (vbyte v)) (sym (exact_taken (vbyte v) v (length (vbyte v)) (byte_vbyte v) own))

-- five bytes decide
taken_on_few : (left n k : ℕ) (bytes : List ℕ) → taken_on left n k (take left bytes) ≡ taken_on left n k bytes
unfolding taken_on
taken_on_few zero n k bytes = refl
taken_on_few (suc left) n k [] = refl
taken_on_few (suc left) n k (b ∷ bytes) =
    ap (λ (x : Result (ℕ × ℕ) VFault). if nat_lt b 128 then x else ended (n * 128 + (b - 128)) (k + 1)) (taken_on_few left (n * 128 + b) (k + 1) bytes)

pub taken_five : (bytes : List ℕ) → taken (take 5 bytes) ≡ taken bytes
unfolding taken
taken_five [] = refl
taken_five (b ∷ bytes) = ap (λ (x : Result (ℕ × ℕ) VFault). if nat_eq b 0 then Err Padded else x) (taken_on_few 5 0 0 (b ∷ bytes))

-- a piece that ends where the bytes end, or holds five, decides
pub taken_piece : (n : ℕ) (bytes : List ℕ) → n ≡ min 5 (length bytes) → taken (take n bytes) ≡ taken bytes
taken_piece n bytes e = ap (λ m. taken (take m bytes)) e ∙ ap taken (take_min 5 bytes) ∙ taken_five bytes

-- what is taken is spelled, where each place holds a byte
pub takes_taken : (bytes : List ℕ) (v k : ℕ) → ((j : ℕ) → slice_index bytes j < 256) → taken bytes ≡ Ok (v, k) → Takes bytes v k
takes_taken bytes v k f h = subst (Answers bytes) h (sound bytes f)
