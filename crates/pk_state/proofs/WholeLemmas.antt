-- The documents of all entries, dropped ones too: their numbers rise, and so one is live just where
-- its own deletion list leaves it.
use Rattle.std.proofs.Common.{◌≡◌, ◌⊎◌, inl, inr, ℕ, zero, suc, ◌+◌, ◌<◌, ◌≤◌, ◌||◌, get_or, Bool, true, false, not, cond, List, [], ◌∷◌, ◌++◌, length, refl, sym, ◌∙◌, ap, subst, arith}
use Rattle.std.specs.Prelude.{filter}
use Rattle.std.specs.List.{AllByRecursion}
use Rattle.std.specs.List.Sorted.{IsStrictlyIncreasing}
use Rattle.std.proofs.lemmas.Bool.{both_ways}
use Rattle.std.proofs.lemmas.List.Concat.{flat_map-cons}
use Rattle.std.proofs.lemmas.List.Elements.{recursion_from_All}
use Rattle.std.proofs.lemmas.List.Folds.{list_any-append}
use Rattle.pk_model.specs.Collection.{Doc, Collection, IsCollection, has_number, is_live, numbers_of}
use Rattle.pk_state.specs.Committed.{Stored, Committed, all_in, collection_of, lists, live_in, live_of, whole_of}
use Rattle.pk_state.proofs.MemberLemmas.{Above, In, above_first, above_in, all_from, from_all, in_back, in_filter, in_front, is_false, live_says, lower, out_filter, says_live}

-- ---- documents with some taken out

unfoldable pub Sub : List Doc → List Doc → Type 0
Sub xs [] = xs ≡ []
Sub xs (y ∷ ys) = Sub xs ys ⊎ ((zs : List Doc) × (xs ≡ y ∷ zs) × Sub zs ys)

pub sub_refl : (xs : List Doc) → Sub xs xs
unfolding Sub
sub_refl [] = refl
sub_refl (x ∷ xs) = inr (xs, refl, sub_refl xs)

sub_one : (b : Bool) (x : Doc) (xs ys : List Doc) → Sub xs ys → Sub (cond b (x ∷ xs) xs) (x ∷ ys)
unfolding Sub
sub_one true x xs ys h = inr (xs, refl, h)
sub_one false x xs ys h = inl h

pub sub_filter : (p : Doc → Bool) (xs : List Doc) → Sub (filter p xs) xs
unfolding Sub
sub_filter p [] = refl
sub_filter p (x ∷ xs) = sub_one (p x) x (filter p xs) xs (sub_filter p xs)

pub sub_append : (ws bs cs ds : List Doc) → Sub ws bs → Sub cs ds → Sub (ws ++ cs) (bs ++ ds)
unfolding Sub
sub_append ws [] cs ds h g = subst (λ (zs : List Doc). Sub (zs ++ cs) ds) (sym h) g
sub_append ws (b ∷ bs) cs ds (inl h) g = inl (sub_append ws bs cs ds h g)
sub_append ws (b ∷ bs) cs ds (inr h) g = inr (h.0 ++ cs, ap (λ zs. zs ++ cs) h.1, sub_append h.0 bs cs ds h.2 g)

pub sub_in : (xs ys : List Doc) → Sub xs ys → (d : Doc) → In d xs → In d ys
unfolding Sub In
sub_in xs [] h d m = subst (In d) h m
sub_in xs (y ∷ ys) (inl h) d m = inr (sub_in xs ys h d m)
sub_in xs (y ∷ ys) (inr h) d m = elim (subst (In d) h.1 m) [ inl e ↦ inl e | inr n ↦ inr (sub_in h.0 ys h.2 d n) ]

pub sub_above : (a : ℕ) (xs ys : List Doc) → Sub xs ys → Above a ys → Above a xs
unfolding Sub Above
sub_above a xs [] h r = subst (Above a) (sym h) tt
sub_above a xs (y ∷ ys) (inl h) r = sub_above a xs ys h (lower a y.number ys r.0 r.1)
sub_above a xs (y ∷ ys) (inr h) r = subst (Above a) (sym h.1) (r.0, sub_above y.number h.0 ys h.2 r.1)

-- ---- numbers that rise over two lists

pub increasing : (a : ℕ) (ds : List Doc) → Above a ds → IsStrictlyIncreasing (numbers_of ds)
unfolding Above
increasing a [] r = λ k within. absurd (omega arith)
increasing a (d ∷ []) r = λ k within. absurd (omega (arith, within))
increasing a (d ∷ e ∷ ds) r = at (increasing d.number (e ∷ ds) r.1)
  where
    at : IsStrictlyIncreasing (numbers_of (e ∷ ds)) → (k : ℕ) → k + 1 < length (numbers_of (d ∷ e ∷ ds)) → get_or (numbers_of (d ∷ e ∷ ds)) k 0 < get_or (numbers_of (d ∷ e ∷ ds)) (k + 1) 0
    at more zero within = r.1.0
    at more (suc k) within = let same : suc (k + 1) ≡ suc k + 1 = omega arith in subst (λ n. get_or (numbers_of (e ∷ ds)) k 0 < get_or (numbers_of (d ∷ e ∷ ds)) n 0) same (more k (omega (arith, within)))

weaker : (a b : ℕ) (ds : List Doc) → a ≤ b → Above b ds → Above a ds
unfolding Above
weaker a b [] h r = tt
weaker a b (d ∷ ds) h r = (omega (arith, h, r.0), r.1)

pub above_raise : (a b : ℕ) (ds : List Doc) → Above a ds → ((d : Doc) → In d ds → b < d.number) → Above b ds
unfolding Above In
above_raise a b [] r h = tt
above_raise a b (d ∷ ds) r h = (h d (inl refl), r.1)

pub above_append : (a b : ℕ) (xs ys : List Doc) → Above a xs → ((d : Doc) → In d xs → d.number ≤ b) → a ≤ b → Above b ys → Above a (xs ++ ys)
unfolding Above In
above_append a b [] ys r each le t = weaker a b ys le t
above_append a b (x ∷ xs) ys r each le t = (r.0, above_append x.number b xs ys r.1 (λ d m. each d (inr m)) (each x (inl refl)) t)

pub above_front : (a : ℕ) (xs ys : List Doc) → Above a (xs ++ ys) → Above a xs
unfolding Above
above_front a [] ys r = tt
above_front a (x ∷ xs) ys r = (r.0, above_front x.number xs ys r.1)

pub above_back : (a : ℕ) (xs ys : List Doc) → Above a (xs ++ ys) → Above a ys
unfolding Above
above_back a [] ys r = r
above_back a (x ∷ xs) ys r = above_back a xs ys (lower a x.number (xs ++ ys) r.0 r.1)

pub above_apart : (a : ℕ) (xs ys : List Doc) → Above a (xs ++ ys) → (x y : Doc) → In x xs → In y ys → x.number < y.number
unfolding Above In
above_apart a [] ys r x y m n = absurd m
above_apart a (z ∷ xs) ys r x y (inl e) n = subst (λ (w : Doc). w.number < y.number) e (above_in z.number (xs ++ ys) y r.1 (in_back y xs ys n))
above_apart a (z ∷ xs) ys r x y (inr m) n = above_apart z.number xs ys r.1 x y m n

-- ---- a collection, and a part of it

abbrev collection_with : ℕ → List Doc → Collection
collection_with next documents = record { next = next; documents = documents }

pub collection_above : (c : Collection) → IsCollection c → Above 0 c.documents
collection_above c is = above_first c.next c.documents is.rising (recursion_from_All (λ (d : Doc). (1 ≤ d.number) × (d.number < c.next)) c.documents is.each)

pub number_within : (c : Collection) → IsCollection c → (d : Doc) → In d c.documents → (1 ≤ d.number) × (d.number < c.next)
number_within c is = from_all (λ (d : Doc). (1 ≤ d.number) × (d.number < c.next)) c.documents (recursion_from_All (λ (d : Doc). (1 ≤ d.number) × (d.number < c.next)) c.documents is.each)

pub collection_from : (next : ℕ) (docs : List Doc) → Above 0 docs → ((d : Doc) → In d docs → d.number < next) → 1 ≤ next → IsCollection (collection_with next docs)
collection_from next docs r below some = record {
  rising = increasing 0 docs r;
  each = all_from (λ (d : Doc). (1 ≤ d.number) × (d.number < next)) docs (λ d m. let above : 0 < d.number = above_in 0 docs d r m in (omega (arith, above), below d m));
  next = some;
}

pub part_is : (c : Collection) (next : ℕ) (docs : List Doc) → IsCollection c → c.next ≤ next → Sub docs c.documents → IsCollection (collection_with next docs)
part_is c next docs is le sub = collection_from next docs (sub_above 0 docs c.documents sub (collection_above c is))
    (λ d m. let low = number_within c is d (sub_in docs c.documents sub d m) in omega (arith, le, low.1))
    (omega (arith, le, is.next))

-- ---- what the deletion lists leave

pub all_cons : (s : Stored) (stored : List Stored) → all_in (s ∷ stored) ≡ s.documents ++ all_in stored
all_cons s stored = flat_map-cons (λ (t : Stored). t.documents) s stored

pub live_cons : (s : Stored) (stored : List Stored) → live_in (s ∷ stored) ≡ live_of s ++ live_in stored
live_cons s stored = flat_map-cons live_of s stored

pub live_sub : (stored : List Stored) → Sub (live_in stored) (all_in stored)
unfolding Sub
live_sub [] = refl
live_sub (s ∷ stored) = subst (λ (ds : List Doc). Sub ds (all_in (s ∷ stored))) (sym (live_cons s stored))
    (subst (Sub (live_of s ++ live_in stored)) (sym (all_cons s stored))
    (sub_append (live_of s) s.documents (live_in stored) (all_in stored) (sub_filter (λ d. not (lists d.number s.dead)) s.documents) (live_sub stored)))

pub live_is : (c : Committed) → IsCollection (whole_of c) → IsCollection (collection_of c)
live_is c is = part_is (whole_of c) c.body.next_number (live_in c.stored) is (omega arith) (live_sub c.stored)

-- ---- a document lives just where its own list leaves it

pub not_live : (n : ℕ) (ds : List Doc) → ((d : Doc) → In d ds → d.number ≡ n → ⊥) → is_live n ds ≡ false
not_live n ds h = is_false (is_live n ds) (λ says. let r = live_says n ds says in h r.0 r.1 r.2)

pub live_own : (s : Stored) (d : Doc) → In d s.documents → is_live d.number (live_of s) ≡ not (lists d.number s.dead)
live_own s d m = by (lists d.number s.dead) refl
  where
    left : Doc → Bool
    left e = not (lists e.number s.dead)

    by : (b : Bool) → lists d.number s.dead ≡ b → is_live d.number (live_of s) ≡ not b
    by true is = not_live d.number (live_of s) gone
      where
        gone : (e : Doc) → In e (live_of s) → e.number ≡ d.number → ⊥
        gone e n same = both_ways _ (ap (λ k. not (lists k s.dead)) same ∙ ap not is) (out_filter left e s.documents n).1
    by false is = says_live d (live_of s) (in_filter left d s.documents m (ap not is))

unfoldable pub LiveAs : List Doc → Stored → Type 0
LiveAs live s = (d : Doc) → In d s.documents → is_live d.number live ≡ not (lists d.number s.dead)

or_false : (b : Bool) → (b || false) ≡ b
or_false true = refl
or_false false = refl

-- where the documents of these entries live as these entries leave them, each lives as its own does
pub live_each : (live : List Doc) (a : ℕ) (stored : List Stored) → Above a (all_in stored) → ((d : Doc) → In d (all_in stored) → is_live d.number live ≡ is_live d.number (live_in stored)) → AllByRecursion (LiveAs live) stored
unfolding LiveAs
live_each live a [] r f = tt
live_each live a (s ∷ stored) r f = (own, live_each live a stored (above_back a s.documents (all_in stored) rise) later)
  where
    rise : Above a (s.documents ++ all_in stored)
    rise = subst (Above a) (all_cons s stored) r

    both : (d : Doc) → In d (s.documents ++ all_in stored) → is_live d.number live ≡ (is_live d.number (live_of s) || is_live d.number (live_in stored))
    both d m = f d (subst (In d) (sym (all_cons s stored)) m) ∙ ap (is_live d.number) (live_cons s stored) ∙ list_any-append (has_number d.number) (live_of s) (live_in stored)

    own : (d : Doc) → In d s.documents → is_live d.number live ≡ not (lists d.number s.dead)
    own d m = both d (in_front d s.documents (all_in stored) m)
        ∙ ap (λ b. is_live d.number (live_of s) || b) (not_live d.number (live_in stored) (λ e n same. omega (arith, above_apart a s.documents (all_in stored) rise d e m (sub_in (live_in stored) (all_in stored) (live_sub stored) e n), same)))
        ∙ or_false (is_live d.number (live_of s)) ∙ live_own s d m

    later : (d : Doc) → In d (all_in stored) → is_live d.number live ≡ is_live d.number (live_in stored)
    later d m = both d (in_back d s.documents (all_in stored) m)
        ∙ ap (λ b. b || is_live d.number (live_in stored)) (not_live d.number (live_of s) (λ e n same. omega (arith, above_apart a s.documents (all_in stored) rise e d (out_filter (λ x. not (lists x.number s.dead)) e s.documents n).0 m, same)))
