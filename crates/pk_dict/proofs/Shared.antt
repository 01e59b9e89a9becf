-- How many bytes two lists share.
use Rattle.std.proofs.Common.{arith, refl, sym, ap, subst, ◌∙◌, ◌≡◌, ◌≤◌, ◌<◌, ◌+◌, ◌∷◌, [], ℕ, zero, suc, List, length, take, drop, get_or, inl, inr, ◌⊎◌, Ok, Err, min}
use Rattle.std.proofs.lemmas.Bool.{cases_lt, cases_eq, eq-eqb, ne_eqb, lt-ltb, le-ltb}
use Rattle.std.proofs.lemmas.List.{drop_all, drop_more, length-drop, length-take, drop-drop, drop-take, take-take}
use Rattle.pk_posting.specs.declared.source.SourceFault.TheVariants as faults
use Rattle.pk_vbyte.specs.VariableByte.{taken}
use Rattle.pk_dict.specs.Dictionary.{shared}
use Rattle.pk_dict.specs.Reading.{number_at, shared_at, entry_at}

-- nothing is read past the end
pub number_past : (bytes : List ℕ) (at : ℕ) → length bytes < at → number_at bytes at ≡ Err faults.Damaged
unfolding number_at taken
number_past bytes at h = rw (drop_all at bytes (omega arith)) refl

pub shared_nil : (xs : List ℕ) → shared xs [] ≡ 0
shared_nil [] = refl
shared_nil (x ∷ xs) = refl

pub shared_same : (x y : ℕ) (xs ys : List ℕ) → x ≡ y → shared (x ∷ xs) (y ∷ ys) ≡ suc (shared xs ys)
shared_same x y xs ys h = rw (eq-eqb x y h) refl

pub shared_apart : (x y : ℕ) (xs ys : List ℕ) → (x ≡ y → ⊥) → shared (x ∷ xs) (y ∷ ys) ≡ 0
shared_apart x y xs ys h = rw (ne_eqb x y h) refl

pub shared_more : (xs ys : List ℕ) (i : ℕ) → i < length xs → i < length ys → get_or xs i 0 ≡ get_or ys i 0 → shared (drop i xs) (drop i ys) ≡ suc (shared (drop (i + 1) xs) (drop (i + 1) ys))
shared_more xs ys i h k e = rw (drop_more xs i 0 h, drop_more ys i 0 k) (shared_same _ _ (drop (i + 1) xs) (drop (i + 1) ys) e)

pub shared_stop : (xs ys : List ℕ) (i : ℕ) → i < length xs → i < length ys → (get_or xs i 0 ≡ get_or ys i 0 → ⊥) → shared (drop i xs) (drop i ys) ≡ 0
shared_stop xs ys i h k e = rw (drop_more xs i 0 h, drop_more ys i 0 k) (shared_apart _ _ (drop (i + 1) xs) (drop (i + 1) ys) e)

pub shared_left : (xs ys : List ℕ) (i : ℕ) → length xs ≤ i → shared (drop i xs) (drop i ys) ≡ 0
shared_left xs ys i h = rw (drop_all i xs h) refl

pub shared_right : (xs ys : List ℕ) (i : ℕ) → length ys ≤ i → shared (drop i xs) (drop i ys) ≡ 0
shared_right xs ys i h = rw (drop_all i ys h) (shared_nil _)

-- no more than either has
pub shared_most : (xs ys : List ℕ) → (shared xs ys ≤ length xs) × (shared xs ys ≤ length ys)
shared_most [] ys = (omega arith, omega arith)
shared_most (x ∷ xs) [] = (omega arith, omega arith)
shared_most (x ∷ xs) (y ∷ ys) =
    let r = shared_most xs ys in
    elim (cases_eq x y) [
      | inl e ↦ rw (shared_same x y xs ys e) (omega (arith, r.0), omega (arith, r.1))
      | inr n ↦ rw (shared_apart x y xs ys n) (omega arith, omega arith)
    ]

-- where the front of k shares less than k, that is all
pub shared_front_part : (k : ℕ) (xs ys : List ℕ) → k ≤ length xs → shared (take k xs) ys < k → shared xs ys ≡ shared (take k xs) ys
shared_front_part zero xs ys h lt = absurd (omega arith)
shared_front_part (suc k) [] ys h lt = refl
shared_front_part (suc k) (x ∷ xs) [] h lt = refl
shared_front_part (suc k) (x ∷ xs) (y ∷ ys) h lt =
    elim (cases_eq x y) [
      | inl e ↦
          let p = shared_same x y (take k xs) ys e in
          let q = shared_same x y xs ys e in
          q ∙ ap suc (shared_front_part k xs ys (omega arith) (omega (arith, p))) ∙ sym p
      | inr n ↦ shared_apart x y xs ys n ∙ sym (shared_apart x y (take k xs) ys n)
    ]

pub shared_front_whole : (k : ℕ) (xs ys : List ℕ) → k ≤ length xs → shared (take k xs) ys ≡ k → shared xs ys ≡ k + shared (drop k xs) (drop k ys)
shared_front_whole zero xs ys h e = omega arith
shared_front_whole (suc k) [] ys h e = absurd (omega arith)
shared_front_whole (suc k) (x ∷ xs) [] h e = absurd (omega arith)
shared_front_whole (suc k) (x ∷ xs) (y ∷ ys) h e =
    elim (cases_eq x y) [
      | inl s ↦
          let p = shared_same x y (take k xs) ys s in
          let q = shared_same x y xs ys s in
          omega (arith, p, q, shared_front_whole k xs ys (omega arith) (omega (arith, p)))
      | inr n ↦ absurd (omega (arith, shared_apart x y (take k xs) ys n))
    ]

-- a part of what lies at a place
pub part : (k d n at : ℕ) (bytes : List ℕ) → d + k ≤ n → take k (drop (at + d) bytes) ≡ take k (drop d (take n (drop at bytes)))
part k d n at bytes h =
    ap (take k) (sym (drop-drop d at bytes)) ∙ sym (drop-take d k (drop at bytes)) ∙ sym (ap (drop d) (take-take (d + k) n (drop at bytes) h)) ∙ drop-take d k (take n (drop at bytes))

-- a size that no number takes
pub beyond : (bytes : List ℕ) (at : ℕ) → length bytes < at → entry_at bytes at ≡ Err faults.Damaged
unfolding entry_at
beyond bytes at h = rw (number_past bytes at h) refl

pub shared_past : (bytes : List ℕ) (at n : ℕ) (term : List ℕ) → length bytes < at + n → shared_at bytes at n term ≡ Err faults.Damaged
unfolding shared_at
shared_past bytes at n term h = rw (lt-ltb (length bytes) (at + n) h) refl

pub shared_value : (bytes : List ℕ) (at n : ℕ) (term : List ℕ) (v : ℕ) → at + n ≤ length bytes → v ≡ shared (take n (drop at bytes)) term → shared_at bytes at n term ≡ Ok v
unfolding shared_at
shared_value bytes at n term v h e = rw (le-ltb (length bytes) (at + n) h, e) refl

-- n bytes at a place, a piece of k of them read after d, which shares r with what is left of the term
pub record Piece (bytes : List ℕ) (at n d k r : ℕ) (term piece : List ℕ) : Type 0 where
  pub inside : at + n ≤ length bytes
  pub within : d + k ≤ n
  pub is : piece ≡ take k (drop (at + d) bytes)
  pub found : r ≡ shared piece (drop d term)

piece_found : (bytes : List ℕ) (at n d k r : ℕ) (term piece : List ℕ) → Piece bytes at n d k r term piece → shared (take k (drop d (take n (drop at bytes)))) (drop d term) ≡ r
piece_found bytes at n d k r term piece p =
    sym (p.found ∙ ap (λ (l : List ℕ). shared l (drop d term)) (p.is ∙ part k d n at bytes p.within))

long_enough : (bytes : List ℕ) (at n d k : ℕ) → at + n ≤ length bytes → d + k ≤ n → k ≤ length (drop d (take n (drop at bytes)))
long_enough bytes at n d k h w = omega (arith, length-drop d (take n (drop at bytes)), length-take n (drop at bytes), length-drop at bytes)

pub piece_part : (bytes : List ℕ) (at n d k r : ℕ) (term piece : List ℕ) → Piece bytes at n d k r term piece → r < k → shared (drop d (take n (drop at bytes))) (drop d term) ≡ r
piece_part bytes at n d k r term piece p lt =
    let f = piece_found bytes at n d k r term piece p in
    shared_front_part k (drop d (take n (drop at bytes))) (drop d term) (long_enough bytes at n d k p.inside p.within) (omega (arith, f)) ∙ f

pub piece_whole : (bytes : List ℕ) (at n d k r : ℕ) (term piece : List ℕ) → Piece bytes at n d k r term piece → r ≡ k → shared (drop d (take n (drop at bytes))) (drop d term) ≡ r + shared (drop (d + r) (take n (drop at bytes))) (drop (d + r) term)
piece_whole bytes at n d k r term piece p e =
    let f = piece_found bytes at n d k r term piece p in
    let w = shared_front_whole k (drop d (take n (drop at bytes))) (drop d term) (long_enough bytes at n d k p.inside p.within) (f ∙ e) in
    subst (λ (j : ℕ). shared (drop d (take n (drop at bytes))) (drop d term) ≡ j + shared (drop (d + j) (take n (drop at bytes))) (drop (d + j) term)) (sym e)
    (w ∙ ap (λ (p : List ℕ × List ℕ). k + shared p.0 p.1) (ap (λ (l : List ℕ). (l, drop k (drop d term))) (drop-drop k d (take n (drop at bytes))) ∙ ap (λ (l : List ℕ). (drop (d + k) (take n (drop at bytes)), l)) (drop-drop k d term)))

-- nothing more is shared where one has ended
pub ended : (bytes : List ℕ) (at n d : ℕ) (term : List ℕ) → (n ≤ d) ⊎ (length term ≤ d) → shared (drop d (take n (drop at bytes))) (drop d term) ≡ 0
ended bytes at n d term (inl h) = shared_left (take n (drop at bytes)) term d (omega (arith, length-take n (drop at bytes)))
ended bytes at n d term (inr h) = shared_right (take n (drop at bytes)) term d h

pub which_ended : (n m d : ℕ) → min n m ≤ d → (n ≤ d) ⊎ (m ≤ d)
which_ended n m d h = elim (cases_lt d n) [ inl lt ↦ inr (omega arith) | inr le ↦ inl le ]
