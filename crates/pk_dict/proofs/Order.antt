-- What two terms share, and which stands before.
use Rattle.std.proofs.Common.{arith, refl, sym, ap, subst, ◌∙◌, ◌≡◌, ◌≤◌, ◌<◌, ◌+◌, ◌∷◌, [], ℕ, zero, suc, List, length, drop, get_or, true, false, eqb, ltb, inl, inr}
use Rattle.std.proofs.lemmas.Bool.{cases_lt, cases_eq, cases_order, eq-eqb, ne_eqb, lt-ltb, le-ltb, false≢true}
use Rattle.std.specs.Str.{bytes_eq}
use Rattle.pk_dict.specs.Dictionary.{shared}
use Rattle.pk_dict.specs.Order.{less}
use Rattle.pk_dict.proofs.Shared.{shared_same, shared_apart, shared_most}

pub less_same : (x y : ℕ) (xs ys : List ℕ) → x ≡ y → less (x ∷ xs) (y ∷ ys) ≡ less xs ys
less_same x y xs ys e = rw (le-ltb x y (omega arith), eq-eqb x y e) refl

pub less_by : (x y : ℕ) (xs ys : List ℕ) → x < y → less (x ∷ xs) (y ∷ ys) ≡ true
less_by x y xs ys e = rw (lt-ltb x y e) refl

pub less_not : (x y : ℕ) (xs ys : List ℕ) → y < x → less (x ∷ xs) (y ∷ ys) ≡ false
less_not x y xs ys e = rw (le-ltb x y (omega arith), ne_eqb x y (λ (s : x ≡ y). omega arith)) refl

pub same_by : (x y : ℕ) (xs ys : List ℕ) → x ≡ y → bytes_eq (x ∷ xs) (y ∷ ys) ≡ bytes_eq xs ys
same_by x y xs ys e = rw (eq-eqb x y e) refl

pub same_not : (x y : ℕ) (xs ys : List ℕ) → (x ≡ y → ⊥) → bytes_eq (x ∷ xs) (y ∷ ys) ≡ false
same_not x y xs ys n = rw (ne_eqb x y n) refl

-- where one stands before another, their bytes after what they share rise
pub record Apart (t g : List ℕ) (m : ℕ) : Type 0 where
  pub same : shared t g ≡ m
  pub before : less t g ≡ true
  pub other : bytes_eq t g ≡ false

-- a term that shares more with the one before than the wanted term does
pub keeps : (b t g : List ℕ) → shared b g < shared b t → less b g ≡ true → Apart t g (shared b g)
keeps [] t g lt h = absurd (omega arith)
keeps (x ∷ b) [] g lt h = absurd (omega arith)
keeps (x ∷ b) (y ∷ t) [] lt h = absurd (false≢true h)
keeps (x ∷ b) (y ∷ t) (z ∷ g) lt h =
    elim (cases_eq x y) [
      | inr n ↦ absurd (omega (arith, shared_apart x y b t n))
      | inl e ↦ elim (cases_order x z) [
        | inl s ↦
            let r = keeps b t g (omega (arith, shared_same x y b t e, shared_same x z b g s)) (sym (less_same x z b g s) ∙ h) in
            record { same = shared_same y z t g (omega arith) ∙ ap suc r.same ∙ sym (shared_same x z b g s); before = less_same y z t g (omega arith) ∙ r.before; other = same_by y z t g (omega arith) ∙ r.other }
        | inr o ↦ elim o [
          | inl l ↦ record { same = shared_apart y z t g (λ (q : y ≡ z). omega arith) ∙ sym (shared_apart x z b g (λ (q : x ≡ z). omega arith)); before = less_by y z t g (omega arith); other = same_not y z t g (λ (q : y ≡ z). omega arith) }
          | inr l ↦ absurd (false≢true (sym (less_not x z b g l) ∙ h))
        ]
      ]
    ]

-- a term that shares less with the one before than the wanted term does
pub record Over (b t g : List ℕ) : Type 0 where
  pub byte : get_or g (shared b t) 0 < get_or t (shared b t) 0
  pub within : shared b t < length t
  pub after : less t g ≡ false
  pub other : bytes_eq t g ≡ false

pub passes : (b t g : List ℕ) → shared b t < shared b g → less b t ≡ true → Over b t g
passes [] t g lt h = absurd (omega arith)
passes (x ∷ b) t [] lt h = absurd (omega arith)
passes (x ∷ b) [] (z ∷ g) lt h = absurd (false≢true h)
passes (x ∷ b) (y ∷ t) (z ∷ g) lt h =
    elim (cases_eq x z) [
      | inr n ↦ absurd (omega (arith, shared_apart x z b g n))
      | inl s ↦ elim (cases_order x y) [
        | inl e ↦
            let p = shared_same x y b t e in
            let r = passes b t g (omega (arith, p, shared_same x z b g s)) (sym (less_same x y b t e) ∙ h) in
            record {
              byte = subst (λ (k : ℕ). get_or (z ∷ g) k 0 < get_or (y ∷ t) k 0) (sym p) r.byte;
              within = omega (arith, p, r.within);
              after = less_same y z t g (omega arith) ∙ r.after;
              other = same_by y z t g (omega arith) ∙ r.other;
            }
        | inr o ↦ elim o [
          | inl l ↦
              let p = shared_apart x y b t (λ (q : x ≡ y). omega arith) in
              let k : z < y = omega arith in
              record {
                byte = subst (λ (k : ℕ). get_or (z ∷ g) k 0 < get_or (y ∷ t) k 0) (sym p) k;
                within = omega (arith, p);
                after = less_not y z t g k;
                other = same_not y z t g (λ (q : y ≡ z). omega arith);
              }
          | inr l ↦ absurd (false≢true (sym (less_not x y b t l) ∙ h))
        ]
      ]
    ]

-- terms that share m with a third share m
pub share_both : (b t g : List ℕ) → shared b t ≡ shared b g → shared b t ≤ shared t g
share_both [] t g e = omega arith
share_both (x ∷ b) [] g e = omega arith
share_both (x ∷ b) (y ∷ t) [] e = omega (arith, e)
share_both (x ∷ b) (y ∷ t) (z ∷ g) e =
    elim (cases_eq x y) [
      | inr n ↦ omega (arith, shared_apart x y b t n)
      | inl s ↦ elim (cases_eq x z) [
        | inr n ↦ omega (arith, shared_apart x z b g n, e)
        | inl u ↦
            let p = shared_same x y b t s in
            omega (arith, p, shared_same y z t g (omega arith), share_both b t g (omega (arith, p, shared_same x z b g u, e)))
      ]
    ]

-- what is shared from m on
pub shared_from : (m : ℕ) (t g : List ℕ) → m ≤ shared t g → shared t g ≡ m + shared (drop m t) (drop m g)
shared_from zero t g h = omega arith
shared_from (suc m) [] g h = absurd (omega arith)
shared_from (suc m) (y ∷ t) [] h = absurd (omega arith)
shared_from (suc m) (y ∷ t) (z ∷ g) h =
    elim (cases_eq y z) [
      | inr n ↦ absurd (omega (arith, shared_apart y z t g n))
      | inl e ↦
          let p = shared_same y z t g e in
          omega (arith, p, shared_from m t g (omega (arith, p)))
    ]

pub ends_both : (t g : List ℕ) → shared t g ≡ length t → shared t g ≡ length g → bytes_eq t g ≡ true
ends_both [] [] p q = refl
ends_both [] (z ∷ g) p q = absurd (omega arith)
ends_both (y ∷ t) [] p q = absurd (omega arith)
ends_both (y ∷ t) (z ∷ g) p q =
    elim (cases_eq y z) [
      | inr n ↦ absurd (omega (arith, shared_apart y z t g n))
      | inl e ↦
          let s = shared_same y z t g e in
          same_by y z t g e ∙ ends_both t g (omega (arith, s)) (omega (arith, s))
    ]

pub ends_first : (t g : List ℕ) → shared t g ≡ length t → length t < length g → (less t g ≡ true) × (bytes_eq t g ≡ false)
ends_first [] [] p q = absurd (omega arith)
ends_first [] (z ∷ g) p q = (refl, refl)
ends_first (y ∷ t) [] p q = absurd (omega arith)
ends_first (y ∷ t) (z ∷ g) p q =
    elim (cases_eq y z) [
      | inr n ↦ absurd (omega (arith, shared_apart y z t g n))
      | inl e ↦
          let s = shared_same y z t g e in
          let r = ends_first t g (omega (arith, s)) (omega arith) in
          (less_same y z t g e ∙ r.0, same_by y z t g e ∙ r.1)
    ]

pub ends_second : (t g : List ℕ) → shared t g < length t → shared t g ≡ length g → (less t g ≡ false) × (bytes_eq t g ≡ false)
ends_second [] g p q = absurd (omega arith)
ends_second (y ∷ t) [] p q = (refl, refl)
ends_second (y ∷ t) (z ∷ g) p q =
    elim (cases_eq y z) [
      | inr n ↦ absurd (omega (arith, shared_apart y z t g n))
      | inl e ↦
          let s = shared_same y z t g e in
          let r = ends_second t g (omega (arith, s)) (omega (arith, s)) in
          (less_same y z t g e ∙ r.0, same_by y z t g e ∙ r.1)
    ]

pub ends_neither : (t g : List ℕ) → shared t g < length t → shared t g < length g
    → (less t g ≡ ltb (get_or t (shared t g) 0) (get_or g (shared t g) 0)) × (bytes_eq t g ≡ false) × (get_or t (shared t g) 0 ≡ get_or g (shared t g) 0 → ⊥)
ends_neither [] g p q = absurd (omega arith)
ends_neither (y ∷ t) [] p q = absurd (omega arith)
ends_neither (y ∷ t) (z ∷ g) p q =
    elim (cases_eq y z) [
      | inr n ↦
          let s = shared_apart y z t g n in (
            subst (λ (k : ℕ). less (y ∷ t) (z ∷ g) ≡ ltb (get_or (y ∷ t) k 0) (get_or (z ∷ g) k 0)) (sym s) (elim (cases_lt y z) [ inl l ↦ less_by y z t g l ∙ sym (lt-ltb y z l) | inr l ↦ less_not y z t g (omega (arith, n)) ∙ sym (le-ltb y z l) ]),
            same_not y z t g n,
            subst (λ (k : ℕ). get_or (y ∷ t) k 0 ≡ get_or (z ∷ g) k 0 → ⊥) (sym s) n,
          )
      | inl e ↦
          let s = shared_same y z t g e in
          let r = ends_neither t g (omega (arith, s)) (omega (arith, s)) in (
            subst (λ (k : ℕ). less (y ∷ t) (z ∷ g) ≡ ltb (get_or (y ∷ t) k 0) (get_or (z ∷ g) k 0)) (sym s) (less_same y z t g e ∙ r.0),
            same_by y z t g e ∙ r.1,
            subst (λ (k : ℕ). get_or (y ∷ t) k 0 ≡ get_or (z ∷ g) k 0 → ⊥) (sym s) r.2,
          )
    ]

-- a term past the wanted one is followed by such terms
pub stays_past : (t u g : List ℕ) → less t u ≡ true → less t g ≡ false → bytes_eq t g ≡ false → (less u g ≡ false) × (bytes_eq u g ≡ false)
stays_past t [] g h l s = absurd (false≢true h)
stays_past t (y ∷ u) [] h l s = (refl, refl)
stays_past [] (y ∷ u) (z ∷ g) h l s = absurd (false≢true (sym l))
stays_past (x ∷ t) (y ∷ u) (z ∷ g) h l s =
    elim (cases_order x z) [
      | inl e ↦ elim (cases_order x y) [
        | inl f ↦
            let r = stays_past t u g (sym (less_same x y t u f) ∙ h) (sym (less_same x z t g e) ∙ l) (sym (same_by x z t g e) ∙ s) in
            (less_same y z u g (omega arith) ∙ r.0, same_by y z u g (omega arith) ∙ r.1)
        | inr o ↦ elim o [
          | inl k ↦ (less_not y z u g (omega arith), same_not y z u g (λ (q : y ≡ z). omega arith))
          | inr k ↦ absurd (false≢true (sym (less_not x y t u k) ∙ h))
        ]
      ]
      | inr o ↦ elim o [
        | inl k ↦ absurd (false≢true (sym l ∙ less_by x z t g k))
        | inr k ↦ elim (cases_lt y x) [
          | inl j ↦ absurd (false≢true (sym (less_not x y t u j) ∙ h))
          | inr j ↦ (less_not y z u g (omega arith), same_not y z u g (λ (q : y ≡ z). omega arith))
        ]
      ]
    ]

ends_same : (t g : List ℕ) → shared t g ≡ length t → shared t g ≡ length g → less t g ≡ false
ends_same [] [] p q = refl
ends_same [] (z ∷ g) p q = absurd (omega arith)
ends_same (y ∷ t) [] p q = absurd (omega arith)
ends_same (y ∷ t) (z ∷ g) p q =
    elim (cases_eq y z) [
      | inr n ↦ absurd (omega (arith, shared_apart y z t g n))
      | inl e ↦
          let s = shared_same y z t g e in
          less_same y z t g e ∙ ends_same t g (omega (arith, s)) (omega (arith, s))
    ]

-- what is shared tells which of two terms is less
pub less_end : (a b : List ℕ) (n : ℕ) → n ≡ shared a b → n ≡ length a → n < length b → eqb n (length a) ≡ less a b
less_end a b n s e h = eq-eqb n (length a) e ∙ sym ((ends_first a b (omega arith) (omega arith)).0)

pub less_byte : (a b : List ℕ) (n : ℕ) → n ≡ shared a b → n < length a → n < length b → ltb (get_or a n 0) (get_or b n 0) ≡ less a b
less_byte a b n s e h = ap (λ (k : ℕ). ltb (get_or a k 0) (get_or b k 0)) s ∙ sym ((ends_neither a b (omega arith) (omega arith)).0)

pub less_over : (a b : List ℕ) (n : ℕ) → n ≡ shared a b → length b ≤ n → ltb n (length b) ≡ less a b
less_over a b n s h =
    let most = shared_most a b in
    le-ltb n (length b) h ∙ sym (elim (cases_eq (shared a b) (length a)) [
      | inl e ↦ ends_same a b e (omega (arith, most))
      | inr k ↦ (ends_second a b (omega (arith, most, k)) (omega (arith, most))).0
    ])
