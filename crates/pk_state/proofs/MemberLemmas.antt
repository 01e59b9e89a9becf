-- Members of a list of documents, numbers that rise, and documents that are kept by a test.
use Rattle.std.proofs.Common.{◌≡◌, ◌⊎◌, inl, inr, ℕ, zero, suc, ◌+◌, ◌<◌, ◌≤◌, ◌||◌, ◌&&◌, eqb, get_or, Bool, true, false, not, cond, List, [], ◌∷◌, ◌++◌, length, refl, sym, ◌∙◌, ap, subst, arith}
use Rattle.std.specs.Prelude.{All, Contains, filter, slice_index_or}
use Rattle.std.specs.List.{AllByRecursion, list_any}
use Rattle.std.specs.List.Sorted.{IsStrictlyIncreasing}
use Rattle.std.proofs.lemmas.Bool.{eqb-true, eq-eqb}
use Rattle.std.proofs.lemmas.List.Elements.{All-cons, All-nil}
use Rattle.pk_model.specs.Collection.{Doc, is_live, numbers_of}
use Rattle.pk_state.specs.Committed.{lists}

-- ---- members of a list of documents

unfoldable pub In : Doc → List Doc → Type 0
In d [] = ⊥
In d (x ∷ xs) = (x ≡ d) ⊎ In d xs

pub in_from : (d : Doc) (xs : List Doc) → Contains xs d → In d xs
unfolding In
in_from d [] h = absurd (omega (arith, h.1))
in_from d (x ∷ xs) h = at (λ g. in_from d xs g) h.0 h.1 h.2
  where
    at : (Contains xs d → In d xs) → (k : ℕ) → k < length (x ∷ xs) → slice_index_or (x ∷ xs) k d ≡ d → In d (x ∷ xs)
    at more zero within e = inl e
    at more (suc k) within e = inr (more (k, omega arith, e))

pub from_all : (P : Doc → Type 0) (xs : List Doc) → AllByRecursion P xs → (d : Doc) → In d xs → P d
unfolding In
from_all P [] all d h = absurd h
from_all P (x ∷ xs) all d (inl e) = subst P e all.0
from_all P (x ∷ xs) all d (inr more) = from_all P xs all.1 d more

-- ---- numbers that rise

-- the numbers rise, from above this one
unfoldable pub Above : ℕ → List Doc → Type 0
Above a [] = Unit {0}
Above a (d ∷ ds) = (a < d.number) × Above d.number ds

pub rises : (d : Doc) (ds : List Doc) → IsStrictlyIncreasing (numbers_of (d ∷ ds)) → Above d.number ds
unfolding Above
rises d [] h = tt
rises d (e ∷ ds) h = (h 0 (omega arith), rises e ds (λ k within. let same : suc k + 1 ≡ suc (k + 1) = omega arith in subst (λ n. get_or (numbers_of (e ∷ ds)) k 0 < get_or (numbers_of (d ∷ e ∷ ds)) n 0) same (h (suc k) (omega arith))))

pub above_first : (next : ℕ) (ds : List Doc) → IsStrictlyIncreasing (numbers_of ds) → AllByRecursion (λ (d : Doc). (1 ≤ d.number) × (d.number < next)) ds → Above 0 ds
unfolding Above
above_first next [] h each = tt
above_first next (d ∷ ds) h each = (let one : 1 ≤ d.number = each.0.0 in omega arith, rises d ds h)

pub lower : (a b : ℕ) (ds : List Doc) → a < b → Above b ds → Above a ds
unfolding Above
lower a b [] h r = tt
lower a b (d ∷ ds) h r = (omega (arith, r.0), r.1)

above_one : (b : Bool) (a : ℕ) (d : Doc) (ds : List Doc) → a < d.number → Above d.number ds → Above a (cond b (d ∷ ds) ds)
unfolding Above
above_one true a d ds h r = (h, r)
above_one false a d ds h r = lower a d.number ds h r

pub above_filter : (p : Doc → Bool) (a : ℕ) (ds : List Doc) → Above a ds → Above a (filter p ds)
unfolding Above
above_filter p a [] r = tt
above_filter p a (d ∷ ds) r = above_one (p d) a d (filter p ds) r.0 (above_filter p d.number ds r.1)

pub above_in : (a : ℕ) (ds : List Doc) (d : Doc) → Above a ds → In d ds → a < d.number
unfolding Above In
above_in a [] d r h = absurd h
above_in a (e ∷ ds) d r (inl same) = subst (λ (x : Doc). a < x.number) same r.0
above_in a (e ∷ ds) d r (inr more) = omega (arith, r.0, above_in e.number ds d r.1 more)

-- a number has one document
pub unique : (a : ℕ) (ds : List Doc) → Above a ds → (d e : Doc) → In d ds → In e ds → d.number ≡ e.number → d ≡ e
unfolding Above In
unique a [] r d e h g same = absurd h
unique a (x ∷ xs) r d e (inl p) (inl q) same = sym p ∙ q
unique a (x ∷ xs) r d e (inl p) (inr m) same = absurd (omega (arith, above_in x.number xs e r.1 m, ap (λ (y : Doc). y.number) p, same))
unique a (x ∷ xs) r d e (inr m) (inl q) same = absurd (omega (arith, above_in x.number xs d r.1 m, ap (λ (y : Doc). y.number) q, same))
unique a (x ∷ xs) r d e (inr m) (inr n) same = unique x.number xs r.1 d e m n same

-- two such lists with the same members are one
heads : (x y : Doc) (xs ys : List Doc) → Above x.number xs → Above y.number ys → In x (y ∷ ys) → In y (x ∷ xs) → x ≡ y
unfolding In
heads x y xs ys r t (inl e) h = sym e
heads x y xs ys r t (inr m) (inl e) = e
heads x y xs ys r t (inr m) (inr n) = absurd (omega (arith, above_in y.number ys x t m, above_in x.number xs y r n))

tails : (x y : Doc) (xs ys : List Doc) → x ≡ y → Above x.number xs → (d : Doc) → In d xs → In d (y ∷ ys) → In d ys
unfolding In
tails x y xs ys same r d m (inl e) = absurd (omega (arith, above_in x.number xs d r m, ap (λ (z : Doc). z.number) (same ∙ e)))
tails x y xs ys same r d m (inr n) = n

pub same_members : (a b : ℕ) (xs ys : List Doc) → Above a xs → Above b ys → ((d : Doc) → In d xs → In d ys) → ((d : Doc) → In d ys → In d xs) → xs ≡ ys
unfolding Above In
same_members a b [] [] r t f g = refl
same_members a b [] (y ∷ ys) r t f g = absurd (g y (inl refl))
same_members a b (x ∷ xs) [] r t f g = absurd (f x (inl refl))
same_members a b (x ∷ xs) (y ∷ ys) r t f g =
    let same = heads x y xs ys r.1 t.1 (f x (inl refl)) (g y (inl refl)) in
    ap (λ z. z ∷ xs) same ∙ ap (λ zs. y ∷ zs) (same_members x.number y.number xs ys r.1 t.1
    (λ d m. tails x y xs ys same r.1 d m (f d (inr m)))
    (λ d m. tails y x ys xs (sym same) t.1 d m (g d (inr m))))

-- ---- documents that are kept by a test

pub is_false : (t : Bool) → (t ≡ true → ⊥) → t ≡ false
is_false true h = absurd (h refl)
is_false false h = refl

here : (b : Bool) (x d : Doc) (zs : List Doc) → b ≡ true → x ≡ d → In d (cond b (x ∷ zs) zs)
unfolding In
here true x d zs h e = inl e
here false x d zs h e = absurd (let no : false ≡ true = h in cc)

later : (b : Bool) (x d : Doc) (zs : List Doc) → In d zs → In d (cond b (x ∷ zs) zs)
unfolding In
later true x d zs h = inr h
later false x d zs h = h

pub in_filter : (p : Doc → Bool) (d : Doc) (xs : List Doc) → In d xs → p d ≡ true → In d (filter p xs)
unfolding In
in_filter p d [] h says = absurd h
in_filter p d (x ∷ xs) (inl e) says = here (p x) x d (filter p xs) (ap p e ∙ says) e
in_filter p d (x ∷ xs) (inr m) says = later (p x) x d (filter p xs) (in_filter p d xs m says)

pub out_filter : (p : Doc → Bool) (d : Doc) (xs : List Doc) → In d (filter p xs) → In d xs × (p d ≡ true)
unfolding In
out_filter p d [] h = absurd h
out_filter p d (x ∷ xs) h = by (λ g. let r = out_filter p d xs g in (inr r.0, r.1)) (p x) refl h
  where
    by : (In d (filter p xs) → In d (x ∷ xs) × (p d ≡ true)) → (b : Bool) → p x ≡ b → In d (cond b (x ∷ filter p xs) (filter p xs)) → In d (x ∷ xs) × (p d ≡ true)
    by more true is (inl e) = (inl e, ap p (sym e) ∙ is)
    by more true is (inr m) = more m
    by more false is m = more m

pub filter_same : (p q : Doc → Bool) (xs : List Doc) → ((d : Doc) → In d xs → p d ≡ q d) → filter p xs ≡ filter q xs
unfolding In
filter_same p q [] h = refl
filter_same p q (x ∷ xs) h = ap (λ b. cond b (x ∷ filter p xs) (filter p xs)) (h x (inl refl)) ∙ ap (λ zs. cond (q x) (x ∷ zs) zs) (filter_same p q xs (λ d m. h d (inr m)))

-- a test that keeps no more than another one
pub filter_twice : (p q : Doc → Bool) (xs : List Doc) → ((d : Doc) → In d xs → q d ≡ false → p d ≡ false) → filter p (filter q xs) ≡ filter p xs
unfolding In
filter_twice p q [] h = refl
filter_twice p q (x ∷ xs) h = by (filter_twice p q xs (λ d m. h d (inr m))) (q x) refl
  where
    by : filter p (filter q xs) ≡ filter p xs → (b : Bool) → q x ≡ b → filter p (cond b (x ∷ filter q xs) (filter q xs)) ≡ cond (p x) (x ∷ filter p xs) (filter p xs)
    by more true is = ap (λ zs. cond (p x) (x ∷ zs) zs) more
    by more false is = more ∙ sym (ap (λ b. cond b (x ∷ filter p xs) (filter p xs)) (h x (inl refl) is))

-- a test that drops nothing
pub filter_quiet : (p : Doc → Bool) (xs : List Doc) → list_any (λ d. not (p d)) xs ≡ false → filter p xs ≡ xs
filter_quiet p [] h = refl
filter_quiet p (x ∷ xs) h = by (filter_quiet p xs) (p x) h
  where
    by : (list_any (λ d. not (p d)) xs ≡ false → filter p xs ≡ xs) → (b : Bool) → (not b || list_any (λ d. not (p d)) xs) ≡ false → cond b (x ∷ filter p xs) (filter p xs) ≡ x ∷ xs
    by more true g = ap (λ zs. x ∷ zs) (more g)
    by more false g = absurd (let no : true ≡ false = g in cc)

-- ---- numbers that are live or listed

pub listed : (n : ℕ) (ds : List Doc) → lists n (numbers_of ds) ≡ is_live n ds
listed n [] = refl
listed n (d ∷ ds) = ap (λ b. eqb d.number n || b) (listed n ds)

pub live_says : (n : ℕ) (ds : List Doc) → is_live n ds ≡ true → (d : Doc) × In d ds × (d.number ≡ n)
unfolding In
live_says n [] h = absurd (let no : false ≡ true = h in cc)
live_says n (x ∷ xs) h = by (λ g. let r = live_says n xs g in (r.0, inr r.1, r.2)) (eqb x.number n) refl h
  where
    by : (is_live n xs ≡ true → (d : Doc) × In d (x ∷ xs) × (d.number ≡ n)) → (b : Bool) → eqb x.number n ≡ b → (b || is_live n xs) ≡ true → (d : Doc) × In d (x ∷ xs) × (d.number ≡ n)
    by more true is g = (x, inl refl, eqb-true _ _ is)
    by more false is g = more g

or_later : (b c : Bool) → c ≡ true → (b || c) ≡ true
or_later true c h = refl
or_later false c h = h

pub says_live : (d : Doc) (ds : List Doc) → In d ds → is_live d.number ds ≡ true
unfolding In
says_live d [] h = absurd h
says_live d (x ∷ xs) (inl e) = ap (λ b. b || is_live d.number xs) (eq-eqb x.number d.number (ap (λ (y : Doc). y.number) e))
says_live d (x ∷ xs) (inr m) = or_later (eqb x.number d.number) (is_live d.number xs) (says_live d xs m)

-- ---- both ways

pub contains_from : (d : Doc) (xs : List Doc) → In d xs → Contains xs d
unfolding In
contains_from d [] h = absurd h
contains_from d (x ∷ xs) (inl e) = (zero, omega arith, e)
contains_from d (x ∷ xs) (inr m) = let h = contains_from d xs m in (suc h.0, omega (arith, h.1), h.2)

pub all_from : (P : Doc → Type 0) (xs : List Doc) → ((d : Doc) → In d xs → P d) → All P xs
unfolding In
all_from P [] h = All-nil P
all_from P (x ∷ xs) h = All-cons P x xs (h x (inl refl)) (all_from P xs (λ d m. h d (inr m)))

pub in_either : (d : Doc) (xs ys : List Doc) → In d (xs ++ ys) → In d xs ⊎ In d ys
unfolding In
in_either d [] ys h = inr h
in_either d (x ∷ xs) ys (inl e) = inl (inl e)
in_either d (x ∷ xs) ys (inr m) = elim (in_either d xs ys m) [ inl f ↦ inl (inr f) | inr g ↦ inr g ]

-- the one document of a list has its number
pub in_one : (d x : Doc) → In d (x ∷ []) → x.number ≡ d.number
unfolding In
in_one d x (inl e) = ap (λ (y : Doc). y.number) e
in_one d x (inr m) = absurd m

pub in_front : (d : Doc) (xs ys : List Doc) → In d xs → In d (xs ++ ys)
unfolding In
in_front d [] ys h = absurd h
in_front d (x ∷ xs) ys (inl e) = inl e
in_front d (x ∷ xs) ys (inr m) = inr (in_front d xs ys m)

pub in_back : (d : Doc) (xs ys : List Doc) → In d ys → In d (xs ++ ys)
unfolding In
in_back d [] ys h = h
in_back d (x ∷ xs) ys h = inr (in_back d xs ys h)

and_false : (b : Bool) → (b && false) ≡ false
and_false true = refl
and_false false = refl

-- a number is kept where its document is, by a test of numbers
pub live_filter : (f : ℕ → Bool) (n : ℕ) (docs : List Doc) → is_live n (filter (λ d. f d.number) docs) ≡ (is_live n docs && f n)
live_filter f n [] = refl
live_filter f n (d ∷ docs) = by (live_filter f n docs) (f d.number) refl (eqb d.number n) refl
  where
    by : is_live n (filter (λ e. f e.number) docs) ≡ (is_live n docs && f n) → (b : Bool) → f d.number ≡ b → (c : Bool) → eqb d.number n ≡ c
        → is_live n (cond b (d ∷ filter (λ e. f e.number) docs) (filter (λ e. f e.number) docs)) ≡ ((c || is_live n docs) && f n)
    by more true is true same = ap (λ x. x || is_live n (filter (λ e. f e.number) docs)) same ∙ sym is ∙ ap f (eqb-true d.number n same)
    by more true is false same = ap (λ x. x || is_live n (filter (λ e. f e.number) docs)) same ∙ more
    by more false is true same =
        let no : f n ≡ false = ap f (sym (eqb-true d.number n same)) ∙ is in
        more ∙ ap (λ x. is_live n docs && x) no ∙ and_false (is_live n docs) ∙ sym no
    by more false is false same = more
