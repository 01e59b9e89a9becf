-- The least of the words at the heads of inputs.
use Rattle.std.proofs.Common.{◌≡◌, inl, inr, ℕ, zero, suc, ◌<◌, ◌||◌, Bool, true, false, Less, Equal, Greater, Ordering, List, [], ◌∷◌, ◌++◌, Option, Some, None, refl, sym, ap, subst, ◌∙◌, arith}
use Rattle.std.specs.Prelude.{slice_get}
use Rattle.std.specs.Cmp.Lexicographic.{slice_cmp}
use Rattle.std.specs.List.{AllByRecursion}
use Rattle.std.specs.List.Sorted.{IsStrictlySortedBy}
use Rattle.std.specs.Ordering.{match_ordering, nat_cmp}
use Rattle.std.specs.Str.{bytes_eq}
use Rattle.std.proofs.lemmas.Bool.{cases_lt}
use Rattle.std.proofs.lemmas.Cmp.{nat_list_cmp_total}
use Rattle.std.proofs.lemmas.Slice.Eq.{bytes_eq-Decides}
use Rattle.pk_join.specs.Noted.{head_at, least_of, lesser_of}
use Rattle.pk_join.specs.Walking.{has}
use Rattle.pk_join.proofs.WordLemmas.{lesser_word, same_word}

-- ---- words

-- no word is below itself
pub not_below : (w : List ℕ) → slice_cmp nat_cmp w w ≡ Less → ⊥
not_below w lt = let k : true ≡ false = sym (same_word w) ∙ lesser_word w w lt in cc

-- a word at a place is among them
pub has_at : (ws : List (List ℕ)) (k : ℕ) (w : List ℕ) → slice_get ws k ≡ Some w → has w ws ≡ true
has_at [] k w got = absurd (let e : None ≡ Some w = got in cc)
has_at (v ∷ ws) zero w got = let e : v ≡ w = cc in rw (sym e) (rw (same_word v) refl)
has_at (v ∷ ws) (suc k) w got = either (bytes_eq w v) (has_at ws k w got)
  where
    either : (b : Bool) → has w ws ≡ true → (b || has w ws) ≡ true
    either true h = refl
    either false h = h

-- and one that is among them is at a place
pub at_has : (ws : List (List ℕ)) (w : List ℕ) → has w ws ≡ true → (k : ℕ) × (slice_get ws k ≡ Some w)
at_has [] w there = absurd (let e : false ≡ true = there in cc)
at_has (v ∷ ws) w there = by (λ (h : has w ws ≡ true). at_has ws w h) (bytes_eq w v) refl there
  where
    by : (has w ws ≡ true → (k : ℕ) × (slice_get ws k ≡ Some w)) → (b : Bool) → bytes_eq w v ≡ b
        → (b || has w ws) ≡ true → (k : ℕ) × (slice_get (v ∷ ws) k ≡ Some w)
    by more true e h = (zero, ap (λ (u : List ℕ). Some u) (sym ((bytes_eq-Decides w v).0 e)))
    by more false e h = let m = more h in (suc m.0, m.1)

-- words that rise
pub below_all : (y w : List ℕ) (ys : List (List ℕ))
    → AllByRecursion (λ (v : List ℕ). slice_cmp nat_cmp y v ≡ Less) ys → has w ys ≡ true
    → slice_cmp nat_cmp y w ≡ Less
below_all y w [] all there = absurd (let e : false ≡ true = there in cc)
below_all y w (v ∷ ys) all there = by (λ (h : has w ys ≡ true). below_all y w ys all.1 h) (bytes_eq w v) refl
    there
  where
    by : (has w ys ≡ true → slice_cmp nat_cmp y w ≡ Less) → (b : Bool) → bytes_eq w v ≡ b
        → (b || has w ys) ≡ true → slice_cmp nat_cmp y w ≡ Less
    by more true e h = subst (λ (u : List ℕ). slice_cmp nat_cmp y u ≡ Less) (sym ((bytes_eq-Decides w v).0 e))
        all.0
    by more false e h = more h

pub missing : (y : List ℕ) (ys : List (List ℕ)) → AllByRecursion (λ (v : List ℕ). slice_cmp nat_cmp y v ≡ Less) ys
    → has y ys ≡ false
missing y ys all = by (has y ys) refl
  where
    by : (b : Bool) → has y ys ≡ b → has y ys ≡ false
    by true e = absurd (not_below y (below_all y y ys all e))
    by false e = e

pub sorted_back : (xs ys : List (List ℕ)) → IsStrictlySortedBy (slice_cmp nat_cmp) (xs ++ ys)
    → IsStrictlySortedBy (slice_cmp nat_cmp) ys
unfolding IsStrictlySortedBy
sorted_back [] ys rise = rise
sorted_back (x ∷ xs) ys rise = sorted_back xs ys rise.1

pub sorted_first : (y : List ℕ) (ys : List (List ℕ)) → IsStrictlySortedBy (slice_cmp nat_cmp) (y ∷ ys)
    → AllByRecursion (λ (v : List ℕ). slice_cmp nat_cmp y v ≡ Less) ys
unfolding IsStrictlySortedBy
sorted_first y ys rise = rise.0

all_at : (y : List ℕ) (ys : List (List ℕ)) (k : ℕ) (w : List ℕ)
    → AllByRecursion (λ (v : List ℕ). slice_cmp nat_cmp y v ≡ Less) ys → slice_get ys k ≡ Some w
    → slice_cmp nat_cmp y w ≡ Less
all_at y ys k w all got = below_all y w ys all (has_at ys k w got)

pub sorted_at : (ws : List (List ℕ)) (j k : ℕ) (v w : List ℕ) → IsStrictlySortedBy (slice_cmp nat_cmp) ws
    → slice_get ws j ≡ Some v → slice_get ws k ≡ Some w → j < k → slice_cmp nat_cmp v w ≡ Less
unfolding IsStrictlySortedBy
sorted_at [] j k v w rise a b lt = absurd (let e : None ≡ Some v = a in cc)
sorted_at (u ∷ ws) j zero v w rise a b lt = absurd (omega arith)
sorted_at (u ∷ ws) zero (suc k) v w rise a b lt = let e : u ≡ v =
    cc in subst (λ (x : List ℕ). slice_cmp nat_cmp x w ≡ Less) e (all_at u ws k w rise.0 b)
sorted_at (u ∷ ws) (suc j) (suc k) v w rise a b lt = sorted_at ws j k v w rise.1 a b (omega arith)

-- ---- the least head

pub record IsLeast (hs : List (Option (List ℕ))) (n : ℕ) (w : List ℕ) : Type 0 where
  pub at : ℕ
  pub within : at < n
  pub there : head_at hs at ≡ Some w
  pub least : (i : ℕ) (v : List ℕ) → i < n → head_at hs i ≡ Some v → slice_cmp nat_cmp v w ≡ Less → ⊥

pub lesser_none : (a b : Option (List ℕ)) → lesser_of a b ≡ None → (a ≡ None) × (b ≡ None)
lesser_none None None e = (refl, refl)
lesser_none None (Some w) e = absurd (let k : Some w ≡ None = e in cc)
lesser_none (Some v) None e = absurd (let k : Some v ≡ None = e in cc)
lesser_none (Some v) (Some w) e = absurd (by (slice_cmp nat_cmp w v) e)
  where
    by : (o : Ordering) → match_ordering o (Some w) (Some v) (Some v) ≡ None → ⊥
    by Less k = cc
    by Equal k = cc
    by Greater k = cc

pub none_least : (hs : List (Option (List ℕ))) (n i : ℕ) → least_of hs n ≡ None → i < n
    → head_at hs i ≡ None
none_least hs zero i none lt = absurd (omega arith)
none_least hs (suc n) i none lt =
    let both = lesser_none (least_of hs n) (head_at hs n) none in
    elim (cases_lt i n) [
      | inl less ↦ none_least hs n i both.0 less
      | inr more ↦ (let e : i ≡ n = omega (arith, more, lt) in ap (head_at hs) e ∙ both.1)
    ]

least_more : (hs : List (Option (List ℕ))) (n : ℕ) (w : List ℕ)
    → ((u : List ℕ) → least_of hs n ≡ Some u → IsLeast hs n u) → (a b : Option (List ℕ))
    → least_of hs n ≡ a → head_at hs n ≡ b
    → lesser_of a b ≡ Some w → IsLeast hs (suc n) w
least_more hs n w more None None ea eb e = absurd (let k : None ≡ Some w = e in cc)
least_more hs n w more None (Some x) ea eb e =
    let same : x ≡ w = cc in
    record {
      at = n;
      within = omega arith;
      there = eb ∙ e;
      least = λ i v lt got less. elim (cases_lt i n) [
        | inl front ↦ (let k : Some v ≡ None = sym got ∙ none_least hs n i ea front in absurd (cc))
        | inr back ↦ (
            let at : i ≡ n = omega (arith, back, lt) in
            let k : Some v ≡ Some w = sym got ∙ ap (head_at hs) at ∙ eb ∙ e in
            let is : v ≡ w = cc in
            not_below w (subst (λ (u : List ℕ). slice_cmp nat_cmp u w ≡ Less) is less))
      ];
    }
least_more hs n w more (Some u) None ea eb e =
    let so_far = more w (ea ∙ e) in
    record {
      at = so_far.at;
      within = omega (arith, so_far.within);
      there = so_far.there;
      least = λ i v lt got less. elim (cases_lt i n) [
        | inl front ↦ so_far.least i v front got less
        | inr back ↦ (
            let at : i ≡ n = omega (arith, back, lt) in
            let k : Some v ≡ None = sym got ∙ ap (head_at hs) at ∙ eb in
            absurd (cc))
      ];
    }
least_more hs n w more (Some u) (Some x) ea eb e = by (slice_cmp nat_cmp x u) refl e
  where
    so_far : IsLeast hs n u
    so_far = more u ea

    old : (slice_cmp nat_cmp x u ≡ Less → ⊥) → u ≡ w → IsLeast hs (suc n) w
    old not_less same = record {
      at = so_far.at;
      within = omega (arith, so_far.within);
      there = so_far.there ∙ ap (λ (v : List ℕ). Some v) same;
      least = λ i v lt got less. elim (cases_lt i n) [
        | inl front ↦ so_far.least i v front got
            (subst (λ (y : List ℕ). slice_cmp nat_cmp v y ≡ Less) (sym same) less)
        | inr back ↦ (
            let at : i ≡ n = omega (arith, back, lt) in
            let k : Some v ≡ Some x = sym got ∙ ap (head_at hs) at ∙ eb in
            let is : v ≡ x = cc in
            not_less (subst (λ (y : List ℕ). slice_cmp nat_cmp x y ≡ Less) (sym same)
            (subst (λ (y : List ℕ). slice_cmp nat_cmp y w ≡ Less) is less)))
      ];
    }

    new : slice_cmp nat_cmp x u ≡ Less → x ≡ w → IsLeast hs (suc n) w
    new lower same = record {
      at = n;
      within = omega arith;
      there = eb ∙ ap (λ (v : List ℕ). Some v) same;
      least = λ i v lt got less. elim (cases_lt i n) [
        | inl front ↦ so_far.least i v front got
            (nat_list_cmp_total.trans v x u (subst (λ (y : List ℕ). slice_cmp nat_cmp v y ≡ Less) (sym same)
            less) lower)
        | inr back ↦ (
            let at : i ≡ n = omega (arith, back, lt) in
            let k : Some v ≡ Some x = sym got ∙ ap (head_at hs) at ∙ eb in
            let is : v ≡ w = cc in
            not_below w (subst (λ (y : List ℕ). slice_cmp nat_cmp y w ≡ Less) is less))
      ];
    }

    by : (o : Ordering) → slice_cmp nat_cmp x u ≡ o → match_ordering o (Some x) (Some u) (Some u) ≡ Some w
        → IsLeast hs (suc n) w
    by Less c k = let same : x ≡ w = cc in new c same
    by Equal c k = let same : u ≡ w = cc in old (λ less. let z : Equal ≡ Less = sym c ∙ less in cc) same
    by Greater c k = let same : u ≡ w = cc in old (λ less. let z : Greater ≡ Less = sym c ∙ less in cc) same

pub some_least : (hs : List (Option (List ℕ))) (n : ℕ) (w : List ℕ) → least_of hs n ≡ Some w
    → IsLeast hs n w
some_least hs zero w is = absurd (let k : None ≡ Some w = is in cc)
some_least hs (suc n) w is = least_more hs n w (λ u e. some_least hs n u e)
    (least_of hs n) (head_at hs n) refl refl is
