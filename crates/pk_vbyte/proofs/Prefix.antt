-- No number's bytes begin those of another.
use Rattle.std.proofs.Common.{◌≡◌, ◌≢◌, ℕ, zero, suc, ◌<◌, ◌+◌, ◌/◌, ◌%◌, inl, inr, List, [], ◌∷◌, ◌++◌, length, take, drop, get_or, arith, refl, sym, ap, ◌∙◌}
use Rattle.std.specs.Int.Digits.{digits_of}
use Rattle.std.specs.List.{AllByRecursion}
use Rattle.std.proofs.lemmas.Bool.{cases_lt}
use Rattle.std.proofs.lemmas.List.{get_or_append_left, get_or_at, take_at, drop_at, same_from_push, length_push}
use Rattle.std.proofs.lemmas.Int.Digits.{all_below_base_digits_of, same_from_digits_of, first_digits_of}
use Rattle.pk_vbyte.specs.VariableByte.{vbyte}

below_at : (b : ℕ) (ds : List ℕ) → AllByRecursion (λ d. d < b) ds → (i : ℕ) → i < length ds → get_or ds i 0 < b
below_at b [] f i h = absurd (omega arith)
below_at b (d ∷ ds) f zero h = f.0
below_at b (d ∷ ds) f (suc i) h = below_at b ds f.1 i (omega arith)

-- how many bytes come before the last
abbrev pub more : ℕ → ℕ
more v = length (digits_of 128 (v / 128))

pub length_vbyte : (v : ℕ) → length (vbyte v) ≡ more v + 1
unfolding vbyte
length_vbyte v = length_push (digits_of 128 (v / 128)) (v % 128 + 128)

pub before_last : (v : ℕ) (rest : List ℕ) (i : ℕ) → i < more v → get_or (vbyte v ++ rest) i 0 < 128
unfolding vbyte
before_last v rest i h =
    let ds = digits_of 128 (v / 128) in
    let all = below_at 128 ds (all_below_base_digits_of 128 (v / 128) (omega arith)) i h in
    let a = get_or_append_left (ds ++ ((v % 128 + 128) ∷ [])) rest 0 i (omega (arith, length_push ds (v % 128 + 128))) in
    let b = get_or_append_left ds ((v % 128 + 128) ∷ []) 0 i h in
    omega (arith, all, a, b)

pub at_last : (v : ℕ) (rest : List ℕ) → get_or (vbyte v ++ rest) (more v) 0 ≡ v % 128 + 128
unfolding vbyte
at_last v rest =
    let ds = digits_of 128 (v / 128) in
    get_or_append_left (ds ++ ((v % 128 + 128) ∷ [])) rest 0 (more v) (omega (arith, length_push ds (v % 128 + 128)))
    ∙ get_or_at ds (v % 128 + 128) [] 0 (more v) refl

pub first_proper : (v : ℕ) (rest : List ℕ) → get_or (vbyte v ++ rest) 0 0 ≢ 0
unfolding vbyte
first_proper v rest z = elim (cases_lt 0 (more v)) [
  | inl l ↦ (
      let ds = digits_of 128 (v / 128) in
      let a = get_or_append_left (ds ++ ((v % 128 + 128) ∷ [])) rest 0 0 (omega (arith, length_push ds (v % 128 + 128))) in
      let b = get_or_append_left ds ((v % 128 + 128) ∷ []) 0 0 l in
      elim (cases_lt 0 (v / 128)) [
        | inl p ↦ (let f = first_digits_of 128 (v / 128) (omega arith) p in omega (arith, a, b, f))
        | inr p ↦ (let e : v / 128 ≡ 0 = omega arith in let n : more v ≡ 0 = ap (λ x. length (digits_of 128 x)) e in omega arith)
      ])
  | inr r ↦ (let e : more v ≡ 0 = omega arith in let a = at_last v rest in let b = ap (λ k. get_or (vbyte v ++ rest) k 0) e in omega (arith, a, b))
]

same_more : (v w : ℕ) (r s : List ℕ) → vbyte v ++ r ≡ vbyte w ++ s → more v < more w → ⊥
same_more v w r s e l =
    let a = at_last v r in
    let b = before_last w s (more v) l in
    let c = ap (λ xs. get_or xs (more v) 0) e in
    omega (arith, a, b, c)

same_vbyte : (v w : ℕ) → vbyte v ≡ vbyte w → v ≡ w
unfolding vbyte
same_vbyte v w e =
    let p = same_from_push (digits_of 128 (v / 128)) (digits_of 128 (w / 128)) (v % 128 + 128) (w % 128 + 128) e in
    let q = same_from_digits_of 128 (v / 128) (w / 128) (omega arith) p.0 in
    let l = p.1 in
    omega (arith, q, l)

-- the number that bytes begin with is the only one
pub same_first : (v w : ℕ) (r s : List ℕ) → vbyte v ++ r ≡ vbyte w ++ s → (v ≡ w) × (r ≡ s)
same_first v w r s e =
    let long : length (vbyte v) ≡ length (vbyte w) = elim (cases_lt (more v) (more w)) [
      | inl l ↦ absurd (same_more v w r s e l)
      | inr m ↦ elim (cases_lt (more w) (more v)) [
        | inl l ↦ absurd (same_more w v s r (sym e) l)
        | inr n ↦ omega (arith, length_vbyte v, length_vbyte w)
      ]
    ] in
    let bytes : vbyte v ≡ vbyte w = sym (take_at (vbyte v) r (length (vbyte v)) refl) ∙ ap (take (length (vbyte v))) e ∙ take_at (vbyte w) s (length (vbyte v)) (sym long) in
    let rest : r ≡ s = sym (drop_at (vbyte v) r (length (vbyte v)) refl) ∙ ap (drop (length (vbyte v))) e ∙ drop_at (vbyte w) s (length (vbyte v)) (sym long) in
    (same_vbyte v w bytes, rest)
