-- A step keeps a collection, and the answer of a query is the rising list of its hits.
use Rattle.std.proofs.Common.{◌≡◌, ℕ, ◌+◌, ◌<◌, ◌≤◌, ◌⊎◌, inl, inr, suc, zero, get_or, Bool, true, false, cond, List, [], ◌∷◌, ◌++◌, length, refl, ap, sym, ◌∙◌, subst, arith}
use Rattle.std.specs.Prelude.{filter, All, Contains, not, slice_index_or}
use Rattle.std.specs.List.{AllByRecursion}
use Rattle.std.specs.List.Sorted.{IsStrictlyIncreasing}
use Rattle.std.proofs.lemmas.List.{map-append}
use Rattle.std.proofs.lemmas.List.Elements.{recursion_from_All, All-append, All-filter, All-map}
use Rattle.pk_model.specs.Tree.{Tree}
use Rattle.pk_model.specs.Collection.{Doc, Collection, IsCollection, numbers_of, has_number, is_hit, answer}
use Rattle.pk_model.specs.Steps.{Request, add, delete, find, show, commit, merge, tidy, count, after_one}

-- the numbers rise from above one on
RisesFrom : ℕ → List ℕ → Type 0
RisesFrom a [] = Unit {0}
RisesFrom a (x ∷ xs) = (a < x) × RisesFrom x xs

to_rises : (a : ℕ) (xs : List ℕ) → IsStrictlyIncreasing (a ∷ xs) → RisesFrom a xs
unfolding RisesFrom
to_rises a [] h = tt
to_rises a (x ∷ xs) h = (h 0 (omega arith), to_rises x xs (λ k within. let e : suc k + 1 ≡ suc (k + 1) = omega arith in subst (λ n. get_or (x ∷ xs) k 0 < get_or (a ∷ x ∷ xs) n 0) e (h (suc k) (omega arith))))

from_rises : (a : ℕ) (xs : List ℕ) → RisesFrom a xs → IsStrictlyIncreasing (a ∷ xs)
unfolding RisesFrom
from_rises a [] h k within = absurd (omega arith)
from_rises a (x ∷ xs) h zero within = h.0
from_rises a (x ∷ xs) h (suc k) within = let e : suc (k + 1) ≡ suc k + 1 = omega arith in subst (λ n. get_or (x ∷ xs) k 0 < get_or (a ∷ x ∷ xs) n 0) e (from_rises x xs h.1 k (omega arith))

rises_snoc : (a : ℕ) (xs : List ℕ) (n : ℕ) → RisesFrom a xs → a < n → AllByRecursion (λ x. x < n) xs → RisesFrom a (xs ++ n ∷ [])
unfolding RisesFrom
rises_snoc a [] n h below all = (below, tt)
rises_snoc a (x ∷ xs) n h below all = (h.0, rises_snoc x xs n h.1 all.0 all.1)

-- a list that rises still rises with a number above all of it at its end
pub increasing-snoc : (xs : List ℕ) (n : ℕ) → IsStrictlyIncreasing xs → All (λ x. x < n) xs → IsStrictlyIncreasing (xs ++ n ∷ [])
increasing-snoc [] n h all = λ k within. absurd (omega arith)
increasing-snoc (x ∷ xs) n h all =
    let each = recursion_from_All (λ y. y < n) (x ∷ xs) all in
    from_rises x (xs ++ n ∷ []) (rises_snoc x xs n (to_rises x xs h) each.0 each.1)

-- keeping documents by their numbers keeps the numbers
pub numbers-filter : (p : ℕ → Bool) (docs : List Doc) → numbers_of (filter (λ d. p d.number) docs) ≡ filter p (numbers_of docs)
numbers-filter p [] = refl
numbers-filter p (d ∷ docs) = numbers_cond (p d.number) d (filter (λ e. p e.number) docs) ∙ ap (λ ns. cond (p d.number) (d.number ∷ ns) ns) (numbers-filter p docs)
  where
    numbers_cond : (b : Bool) (d : Doc) (ds : List Doc) → numbers_of (cond b (d ∷ ds) ds) ≡ cond b (d.number ∷ numbers_of ds) (numbers_of ds)
    numbers_cond true d ds = refl
    numbers_cond false d ds = refl

-- the numbers rise from above a lesser one too
lower : (a b : ℕ) (ns : List ℕ) → a < b → RisesFrom b ns → RisesFrom a ns
unfolding RisesFrom
lower a b [] h r = tt
lower a b (n ∷ ns) h r = (omega (arith, r.0), r.1)

kept_one : (b : Bool) (a : ℕ) (d : Doc) (ds : List Doc) → a < d.number → RisesFrom d.number (numbers_of ds) → RisesFrom a (numbers_of (cond b (d ∷ ds) ds))
unfolding RisesFrom
kept_one true a d ds h r = (h, r)
kept_one false a d ds h r = lower a d.number (numbers_of ds) h r

kept_rise : (p : Doc → Bool) (a : ℕ) (ds : List Doc) → RisesFrom a (numbers_of ds) → RisesFrom a (numbers_of (filter p ds))
unfolding RisesFrom
kept_rise p a [] r = tt
kept_rise p a (e ∷ ds) r = kept_one (p e) a e (filter p ds) r.0 (kept_rise p e.number ds r.1)

after_first : (a : ℕ) (ns : List ℕ) → RisesFrom a ns → IsStrictlyIncreasing ns
unfolding RisesFrom
after_first a [] r = λ k within. absurd (omega arith)
after_first a (n ∷ ns) r = from_rises n ns r.1

start : (b : Bool) (d : Doc) (ds : List Doc) → RisesFrom d.number (numbers_of ds) → IsStrictlyIncreasing (numbers_of (cond b (d ∷ ds) ds))
start true d ds r = from_rises d.number (numbers_of ds) r
start false d ds r = after_first d.number (numbers_of ds) r

-- the numbers of the documents that are kept rise, by whatever test they are kept
pub rising-filter : (p : Doc → Bool) (docs : List Doc) → IsStrictlyIncreasing (numbers_of docs) → IsStrictlyIncreasing (numbers_of (filter p docs))
rising-filter p [] h = h
rising-filter p (d ∷ docs) h = start (p d) d (filter p docs) (kept_rise p d.number docs (to_rises d.number (numbers_of docs) h))

kept_below : (next : ℕ) (docs : List Doc) → All (λ (d : Doc). (1 ≤ d.number) × (d.number < next)) docs → All (λ n. n < next) (numbers_of docs)
kept_below next docs each = All-map (λ n. n < next) (λ (d : Doc). d.number) docs (λ k d h. (each k d h).1)

pub keeps : (request : Request) (c : Collection) → IsCollection c → IsCollection (after_one request c)
keeps (add text) c is = record {
  rising = subst IsStrictlyIncreasing (sym (map-append (λ (d : Doc). d.number) c.documents _)) (increasing-snoc (numbers_of c.documents) c.next is.rising (kept_below c.next c.documents is.each));
  each = All-append (λ (d : Doc). (1 ≤ d.number) × (d.number < c.next + 1)) c.documents (record { number = c.next; text = text } ∷ []) (λ k d h. let one = is.each k d h in (one.0, let lt : (slice_index_or c.documents k d).number < c.next = one.1 in omega arith)) (first c.next text is.next);
  next = let h : 1 ≤ c.next = is.next in omega arith;
}
  where
    first : (next : ℕ) (text : List ℕ) → 1 ≤ next → All (λ (d : Doc). (1 ≤ d.number) × (d.number < next + 1)) (record { number = next; text = text } ∷ [])
    first next text h zero d within = (h, omega arith)
    first next text h (suc k) d within = absurd (omega arith)
keeps (delete n) c is = record {
  rising = rising-filter (λ d. not (has_number n d)) c.documents is.rising;
  each = All-filter (λ d. not (has_number n d)) (λ (d : Doc). (1 ≤ d.number) × (d.number < c.next)) c.documents is.each;
  next = is.next;
}
keeps (find query) c is = is
keeps (show n) c is = is
keeps commit c is = is
keeps merge c is = is
keeps tidy c is = is
keeps count c is = is

contains-later : {X : Type 0} (x y : X) (xs : List X) → Contains xs y → Contains (x ∷ xs) y
contains-later x y xs h = (suc h.0, omega (arith, h.1), h.2)

contains-cases : {X : Type 0} (x y : X) (xs : List X) → Contains (x ∷ xs) y → (x ≡ y) ⊎ Contains xs y
contains-cases x y xs h = at h.0 h.1 h.2
  where
    at : (k : ℕ) → k < length (x ∷ xs) → slice_index_or (x ∷ xs) k y ≡ y → (x ≡ y) ⊎ Contains xs y
    at zero within e = inl e
    at (suc k) within e = inr (k, omega arith, e)

pub to_hit : (query : Tree) (docs : List Doc) (n : ℕ) → Contains (answer query docs) n
    → (d : Doc) × Contains docs d × (is_hit query d ≡ true) × (d.number ≡ n)
to_hit query [] n h = absurd (omega (arith, h.1))
to_hit query (e ∷ docs) n h = by (λ g. let r = to_hit query docs n g in (r.0, contains-later e r.0 docs r.1, r.2, r.3)) (is_hit query e) refl h
  where
    by : (Contains (answer query docs) n → (d : Doc) × Contains (e ∷ docs) d × (is_hit query d ≡ true) × (d.number ≡ n)) → (b : Bool) → is_hit query e ≡ b → Contains (numbers_of (cond b (e ∷ filter (is_hit query) docs) (filter (is_hit query) docs))) n
        → (d : Doc) × Contains (e ∷ docs) d × (is_hit query d ≡ true) × (d.number ≡ n)
    by later true is g = elim (contains-cases e.number n (answer query docs) g) [ inl same ↦ (e, (zero, omega arith, refl), is, same) | inr more ↦ later more ]
    by later false is g = later g

pub from_hit : (query : Tree) (docs : List Doc) (n : ℕ) (d : Doc) → Contains docs d → is_hit query d ≡ true → d.number ≡ n → Contains (answer query docs) n
from_hit query [] n d h is e = absurd (omega (arith, h.1))
from_hit query (first ∷ docs) n d h is e = elim (contains-cases first d docs h) [ inl same ↦ here same | inr more ↦ later (is_hit query first) (from_hit query docs n d more is e) ]
  where
    later : (b : Bool) → Contains (answer query docs) n → Contains (numbers_of (cond b (first ∷ filter (is_hit query) docs) (filter (is_hit query) docs))) n
    later true g = contains-later first.number n (answer query docs) g
    later false g = g

    here : first ≡ d → Contains (answer query (first ∷ docs)) n
    here same = let yes : is_hit query first ≡ true = ap (is_hit query) same ∙ is in
        subst (λ b. Contains (numbers_of (cond b (first ∷ filter (is_hit query) docs) (filter (is_hit query) docs))) n) (sym yes) (zero, omega arith, ap (λ (x : Doc). x.number) same ∙ e)
