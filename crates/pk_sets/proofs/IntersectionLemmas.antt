-- What a step of a merge finds.
use Rattle.std.proofs.Common.{◌≡◌, ℕ, ◌<◌, ◌≤◌, List, [], ◌∷◌, ◌++◌, length, Bool, true, false, cond, ◌||◌, nat_eq, arith, refl, sym, ap, ap₂, ◌∙◌, append_assoc, length-append}
use Rattle.std.specs.List.{filter}
use Rattle.std.specs.Simd.Lanes.{Each1}
use Rattle.std.proofs.lemmas.List.Elements.{filter-append}
use Rattle.std.proofs.lemmas.List.Folds.{list_any-append}
use Rattle.std.proofs.lemmas.Simd.{Each1-weaker}
use Rattle.std.proofs.lemmas.Bool.Decides.{nat_tests}
use Rattle.std.proofs.Common.{subst, ◌<◌}
use Rattle.pk_sets.specs.Sets.{has, intersection}

-- each of xs is below each of ys
abbrev pub Before : List ℕ → List ℕ → Type 0
Before xs ys = Each1 (λ x. Each1 (λ y. x < y) ys) xs

abbrev pub Rising : List ℕ → Type 0
Rising [] = Unit {0}
Rising (x ∷ xs) = Each1 (λ y. x < y) xs × Rising xs

pub eq_false : (x y : ℕ) → x < y → nat_eq x y ≡ false
eq_false x y h = grind (arith, nat_tests)

pub eq_false_turned : (x y : ℕ) → y < x → nat_eq x y ≡ false
eq_false_turned x y h = grind (arith, nat_tests)

pub none_above : (x : ℕ) (ys : List ℕ) → Each1 (λ y. x < y) ys → has ys x ≡ false
none_above x [] h = refl
none_above x (y ∷ ys) h = rw (eq_false x y h.0) (none_above x ys h.1)

pub none_below : (x : ℕ) (ys : List ℕ) → Each1 (λ y. y < x) ys → has ys x ≡ false
none_below x [] h = refl
none_below x (y ∷ ys) h = rw (eq_false_turned x y h.0) (none_below x ys h.1)

pub filter_none : (p : ℕ → Bool) (xs : List ℕ) → Each1 (λ x. p x ≡ false) xs → filter p xs ≡ []
filter_none p [] h = refl
filter_none p (x ∷ xs) h = rw (h.0) (filter_none p xs h.1)

pub filter_same : (p q : ℕ → Bool) (xs : List ℕ) → Each1 (λ x. p x ≡ q x) xs → filter p xs ≡ filter q xs
filter_same p q [] h = refl
filter_same p q (x ∷ xs) h = rw (h.0, filter_same p q xs h.1) refl

pub has_append : (x : ℕ) (ys zs : List ℕ) → has (ys ++ zs) x ≡ (has ys x || has zs x)
has_append x ys zs = list_any-append (λ y. nat_eq x y) ys zs

pub or_false : (b : Bool) → (b || false) ≡ b
or_false true = refl
or_false false = refl

-- where no number of zs can be met, they can be left out
pub left_alone : (xs ys zs : List ℕ) → Before xs zs → intersection xs (ys ++ zs) ≡ intersection xs ys
left_alone xs ys zs h =
    filter_same (has (ys ++ zs)) (has ys) xs
    (Each1-weaker (λ x. Each1 (λ y. x < y) zs) (λ x. has (ys ++ zs) x ≡ has ys x)
    (λ x above. has_append x ys zs ∙ rw (none_above x zs above) (or_false (has ys x))) xs h)

pub right_alone : (xs ys zs : List ℕ) → Each1 (λ x. Each1 (λ y. y < x) ys) xs → intersection xs (ys ++ zs) ≡ intersection xs zs
right_alone xs ys zs h =
    filter_same (has (ys ++ zs)) (has zs) xs
    (Each1-weaker (λ x. Each1 (λ y. y < x) ys) (λ x. has (ys ++ zs) x ≡ has zs x)
    (λ x below. has_append x ys zs ∙ rw (none_below x ys below) refl) xs h)

-- the four of the left end first
pub step_left : (xs xs2 ys ys2 : List ℕ) → Before xs ys2 → intersection (xs ++ xs2) (ys ++ ys2) ≡ intersection xs ys ++ intersection xs2 (ys ++ ys2)
step_left xs xs2 ys ys2 h = filter-append (has (ys ++ ys2)) xs xs2 ∙ ap (λ l. l ++ intersection xs2 (ys ++ ys2)) (left_alone xs ys ys2 h)

-- they end together
pub step_equal : (xs xs2 ys ys2 : List ℕ) → Before xs ys2 → Each1 (λ x. Each1 (λ y. y < x) ys) xs2
    → intersection (xs ++ xs2) (ys ++ ys2) ≡ intersection xs ys ++ intersection xs2 ys2
step_equal xs xs2 ys ys2 h k = step_left xs xs2 ys ys2 h ∙ ap (λ l. intersection xs ys ++ l) (right_alone xs2 ys ys2 k)

pub eq_true : (x y : ℕ) → nat_eq x y ≡ true → x ≡ y
eq_true x y h = grind (arith, nat_tests)

pick : (P : ℕ → Type 0) (x y : ℕ) (b c : Bool) → nat_eq x y ≡ b → P y → (c ≡ true → P x) → (b || c) ≡ true → P x
pick P x y true c e here later found = subst P (sym (eq_true x y e)) here
pick P x y false c e here later found = later found

-- what holds of each of ys holds of a number among them
pub has_means : (P : ℕ → Type 0) (x : ℕ) (ys : List ℕ) → Each1 P ys → has ys x ≡ true → P x
has_means P x [] h found = absurd (cc)
has_means P x (y ∷ ys) h found = pick P x y (nat_eq x y) (has ys x) refl h.0 (has_means P x ys h.1) found

-- x is among ys, and so below zs
has_before : (x : ℕ) (ys zs : List ℕ) → Before ys zs → has ys x ≡ true → Each1 (λ z. x < z) zs
has_before x ys zs h found = has_means (λ y. Each1 (λ z. y < z) zs) x ys h found

has_after : (x : ℕ) (ys zs : List ℕ) → Before ys zs → has zs x ≡ true → Each1 (λ y. y < x) ys
has_after x ys zs h found =
    Each1-weaker (λ y. Each1 (λ z. y < z) zs) (λ y. y < x) (λ y above. has_means (λ z. y < z) x zs above found) ys h

split_case : (x : ℕ) (all left right : List ℕ) (p q : Bool) → all ≡ left ++ right → (p ≡ true → q ≡ false) → (q ≡ true → left ≡ [])
    → cond (p || q) (x ∷ all) all ≡ cond p (x ∷ left) left ++ cond q (x ∷ right) right
split_case x all left right true true e h k = absurd (let no : true ≡ false = h refl in cc)
split_case x all left right true false e h k = ap (λ l. x ∷ l) e
split_case x all left right false true e h k =
    let none : left ≡ [] = k refl in
    ap (λ l. x ∷ l) (e ∙ ap (λ l. l ++ right) none) ∙ ap (λ l. l ++ (x ∷ right)) (sym none)
split_case x all left right false false e h k = e

-- what is met in ys comes before what is met in zs
split : (xs ys zs : List ℕ) → Rising xs → Before ys zs → intersection xs (ys ++ zs) ≡ intersection xs ys ++ intersection xs zs
split [] ys zs rising apart = refl
split (x ∷ xs) ys zs rising apart = rw (has_append x ys zs)
    (split_case x (intersection xs (ys ++ zs)) (intersection xs ys) (intersection xs zs) (has ys x) (has zs x) (split xs ys zs rising.1 apart)
    (λ p. none_above x zs (has_before x ys zs apart p))
    (λ q. filter_none (has ys) xs (Each1-weaker (λ w. x < w) (λ w. has ys w ≡ false)
    (λ w above. none_below w ys (Each1-weaker (λ y. y < x) (λ y. y < w) (λ y below. omega arith) ys (has_after x ys zs apart q)))
    xs rising.0)))

-- the four of the right end first
pub step_right : (xs xs2 ys ys2 : List ℕ) → Rising xs → Before ys ys2 → Each1 (λ x. Each1 (λ y. y < x) ys) xs2
    → intersection (xs ++ xs2) (ys ++ ys2) ≡ intersection xs ys ++ intersection (xs ++ xs2) ys2
step_right xs xs2 ys ys2 rising apart h =
    filter-append (has (ys ++ ys2)) xs xs2
    ∙ ap₂ (λ l m. l ++ m) (split xs ys ys2 rising apart) (right_alone xs2 ys ys2 h)
    ∙ append_assoc (intersection xs ys) (intersection xs ys2) (intersection xs2 ys2)
    ∙ ap (λ l. intersection xs ys ++ l) (sym (filter-append (has ys2) xs xs2))

pub intersection_none : (xs : List ℕ) → intersection xs [] ≡ []
intersection_none [] = refl
intersection_none (x ∷ xs) = intersection_none xs

one_case : (x y : ℕ) (xs : List ℕ) (b : Bool) → nat_eq x y ≡ b → Each1 (λ w. x < w) xs → length (intersection xs (y ∷ [])) ≤ 1
    → length (cond (b || false) (x ∷ intersection xs (y ∷ [])) (intersection xs (y ∷ []))) ≤ 1
one_case x y xs false e above later = later
one_case x y xs true e above later =
    let same = eq_true x y e in
    let none = filter_none (has (y ∷ [])) xs (Each1-weaker (λ w. x < w) (λ w. has (y ∷ []) w ≡ false)
    (λ w h. none_below w (y ∷ []) (let l : y < w = omega arith in (l, tt))) xs above) in
    omega (arith, ap length none)

one_at_most : (y : ℕ) (xs : List ℕ) → Rising xs → length (intersection xs (y ∷ [])) ≤ 1
one_at_most y [] h = omega arith
one_at_most y (x ∷ xs) h = one_case x y xs (nat_eq x y) refl h.0 (one_at_most y xs h.1)

-- there are at most as many as in the right list
pub size_right : (xs ys : List ℕ) → Rising xs → Rising ys → length (intersection xs ys) ≤ length ys
size_right xs [] h k = omega (arith, ap length (intersection_none xs))
size_right xs (y ∷ ys) h k =
    let e = ap length (split xs (y ∷ []) ys h (k.0, tt)) ∙ length-append (intersection xs (y ∷ [])) (intersection xs ys) in
    omega (arith, e, one_at_most y xs h, size_right xs ys h k.1)

eq_turned : (x y : ℕ) → nat_eq x y ≡ nat_eq y x
eq_turned x y = grind (arith, nat_tests)

single_case : (x y : ℕ) (xs : List ℕ) (b : Bool) → nat_eq x y ≡ b → intersection xs (y ∷ []) ≡ cond (has xs y) (y ∷ []) [] → (b ≡ true → intersection xs (y ∷ []) ≡ [])
    → cond (b || false) (x ∷ intersection xs (y ∷ [])) (intersection xs (y ∷ [])) ≡ cond (b || has xs y) (y ∷ []) []
single_case x y xs true e later alone = ap₂ (λ m l. m ∷ l) (eq_true x y e) (alone refl)
single_case x y xs false e later alone = later

single : (y : ℕ) (xs : List ℕ) → Rising xs → intersection xs (y ∷ []) ≡ cond (has xs y) (y ∷ []) []
single y [] h = refl
single y (x ∷ xs) h = rw (eq_turned y x)
    (single_case x y xs (nat_eq x y) refl (single y xs h.1)
    (λ e. let same = eq_true x y e in
    filter_none (has (y ∷ [])) xs (Each1-weaker (λ w. x < w) (λ w. has (y ∷ []) w ≡ false)
    (λ w k. none_below w (y ∷ []) (let l : y < w = omega arith in (l, tt))) xs h.0)))

front_case : (b : Bool) (y : ℕ) (l : List ℕ) → cond b (y ∷ []) [] ++ l ≡ cond b (y ∷ l) l
front_case true y l = refl
front_case false y l = refl

-- it does not matter which list is which
pub intersection_turned : (xs ys : List ℕ) → Rising xs → Rising ys → intersection xs ys ≡ intersection ys xs
intersection_turned xs [] h k = intersection_none xs
intersection_turned xs (y ∷ ys) h k =
    split xs (y ∷ []) ys h (k.0, tt)
    ∙ ap₂ (λ l m. l ++ m) (single y xs h) (intersection_turned xs ys h k.1)
    ∙ front_case (has xs y) y (intersection ys xs)
