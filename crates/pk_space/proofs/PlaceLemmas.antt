-- A run of free units lies in one of the runs, so the first run that is long enough is the first that fits.
use Rattle.std.proofs.Common.{zero, suc, length, take, drop, slice_index_or, slice_set, ◌≡◌, ◌⊎◌, inl, inr, ⊎_elim, ℕ, ◌+◌, ◌<◌, ◌≤◌, ◌++◌, ◌-◌, ◌&&◌, ◌||◌, Bool, true, false, not, ltb, leb, max, List, [], ◌∷◌, refl, sym, ◌∙◌, ap, subst, arith}
use Rattle.std.proofs.lemmas.Bool.{cases_Bool, cases_lt, and_parts, and_from, and_right, or_cases, le-leb, leb-true, ltb-true}
use Rattle.pk_disk.specs.Disk.{in_range}
use Rattle.pk_disk.proofs.Ranges.{outside_cases, outside_range}
use Rattle.pk_space.specs.declared.runs.Run.{Run}
use Rattle.pk_space.specs.Free.{IsFirstFit, IsFullAt}
use Rattle.pk_space.specs.Runs.{are_spaced, is_in_run, run_end}
use Rattle.pk_space.proofs.GapLemmas.{inside_range}

-- the unit is in one of the runs, as cases
abbrev pub IsFree : List Run → ℕ → Type 0
IsFree [] u = ⊥
IsFree (r ∷ rs) u = ((r.first ≤ u) × (u < run_end r)) ⊎ IsFree rs u

-- all runs begin behind this
abbrev pub AreBehind : ℕ → List Run → Type 0
AreBehind n [] = Unit {0}
AreBehind n (r ∷ rs) = (n < r.first) × AreBehind n rs

-- rising, with a gap between each two
abbrev pub AreSpaced : List Run → Type 0
AreSpaced [] = Unit {0}
AreSpaced (r ∷ rs) = AreBehind (run_end r) rs × AreSpaced rs

abbrev pub IsFreeIn : List Run → ℕ → ℕ → Type 0
IsFreeIn runs first n = (u : ℕ) → first ≤ u → u < first + n → IsFree runs u

free_of : (rs : List Run) (u : ℕ) → is_in_run rs u ≡ true → IsFree rs u
free_of [] u is = absurd cc
free_of (r ∷ rs) u is = ⊎_elim
    (λ here. let parts = and_parts (leb r.first u) (ltb u (run_end r)) here in inl (leb-true _ _ parts.0, ltb-true _ _ parts.1))
    (λ later. inr (free_of rs u later))
    (or_cases (in_range r.first r.count u) (is_in_run rs u) is)

of_free : (rs : List Run) (u : ℕ) → IsFree rs u → is_in_run rs u ≡ true
of_free [] u free = absurd free
of_free (r ∷ rs) u free = ⊎_elim
    (λ here. ap (λ (t : Bool). t || is_in_run rs u) (inside_range r.first r.count u here.0 here.1))
    (λ later. elim (cases_Bool (in_range r.first r.count u)) [
      | inl is ↦ ap (λ (t : Bool). t || is_in_run rs u) is
      | inr out ↦ ap (λ (t : Bool). t || is_in_run rs u) out ∙ of_free rs u later
    ])
    free

behind_of : (n low high : ℕ) (rs : List Run) → n < low → are_spaced low high rs ≡ true → AreBehind n rs
behind_of n low high [] lt h = tt
behind_of n low high (r ∷ rs) lt h =
    let a = and_parts (leb low r.first && leb (run_end r) high) (are_spaced (run_end r + 1) high rs) h in
    let b = and_parts (leb low r.first) (leb (run_end r) high) a.0 in
    let first : low ≤ r.first = leb-true _ _ b.0 in
    (let here : n < r.first = omega (arith, lt, first) in here, behind_of n (run_end r + 1) high rs (let later : n < run_end r + 1 = omega (arith, lt, first) in later) a.1)

pub spaced_of : (low high : ℕ) (rs : List Run) → are_spaced low high rs ≡ true → AreSpaced rs
spaced_of low high [] h = tt
spaced_of low high (r ∷ rs) h =
    let a = and_parts (leb low r.first && leb (run_end r) high) (are_spaced (run_end r + 1) high rs) h in
    (behind_of (run_end r) (run_end r + 1) high rs (omega arith) a.1, spaced_of (run_end r + 1) high rs a.1)

-- each run ends by the bound
pub end_below : (low high : ℕ) (rs : List Run) (i : ℕ) (d : Run) → are_spaced low high rs ≡ true → i < length rs → run_end (slice_index_or rs i d) ≤ high
end_below low high [] i d h lt = absurd (let no : ⊥ = omega (arith, lt) in no)
end_below low high (r ∷ rs) zero d h lt =
    let a = and_parts (leb low r.first && leb (run_end r) high) (are_spaced (run_end r + 1) high rs) h in
    leb-true _ _ (and_parts (leb low r.first) (leb (run_end r) high) a.0).1
end_below low high (r ∷ rs) (suc i) d h lt =
    end_below (run_end r + 1) high rs i d (and_parts (leb low r.first && leb (run_end r) high) (are_spaced (run_end r + 1) high rs) h).1 (omega (arith, lt))

-- a run that is shortened from its front leaves the runs spaced
pub spaced_set : (low high : ℕ) (rs : List Run) (i : ℕ) (d r' : Run) → are_spaced low high rs ≡ true → i < length rs → (slice_index_or rs i d).first ≤ r'.first → run_end r' ≡ run_end (slice_index_or rs i d) → are_spaced low high (slice_set rs i r') ≡ true
spaced_set low high [] i d r' h lt first ends = absurd (let no : ⊥ = omega (arith, lt) in no)
spaced_set low high (r ∷ rs) zero d r' h lt first ends =
    let a = and_parts (leb low r.first && leb (run_end r) high) (are_spaced (run_end r + 1) high rs) h in
    let b = and_parts (leb low r.first) (leb (run_end r) high) a.0 in
    and_from (leb low r'.first && leb (run_end r') high) (are_spaced (run_end r' + 1) high rs)
    (and_from (leb low r'.first) (leb (run_end r') high) (le-leb _ _ (omega (arith, first, leb-true _ _ b.0))) (le-leb _ _ (omega (arith, ends, leb-true _ _ b.1))))
    (subst (λ (n : ℕ). are_spaced (n + 1) high rs ≡ true) (sym ends) a.1)
spaced_set low high (r ∷ rs) (suc i) d r' h lt first ends =
    let a = and_parts (leb low r.first && leb (run_end r) high) (are_spaced (run_end r + 1) high rs) h in
    and_from (leb low r.first && leb (run_end r) high) (are_spaced (run_end r + 1) high (slice_set rs i r')) a.0
    (spaced_set (run_end r + 1) high rs i d r' a.1 (omega (arith, lt)) first ends)

-- the first free run of n units
pub record FirstIn (runs : List Run) (n first : ℕ) : Type 0 where
  pub free : IsFreeIn runs first n
  pub earliest : (f : ℕ) → f < first → IsFreeIn runs f n → ⊥

-- the units that stay free
pub record TakenIn (old new : List Run) (first n : ℕ) : Type 0 where
  pub stays : (u : ℕ) → IsFree old u → (u < first) ⊎ (first + n ≤ u) → IsFree new u
  pub only : (u : ℕ) → IsFree new u → IsFree old u × ((u < first) ⊎ (first + n ≤ u))

-- what is free in these runs lies behind n
free_behind : (n : ℕ) (rs : List Run) → AreBehind n rs → (u : ℕ) → IsFree rs u → n < u
free_behind n [] behind u free = absurd free
free_behind n (r ∷ rs) behind u free = ⊎_elim (λ here. omega (arith, behind.0, here.0)) (λ later. free_behind n rs behind.1 u later) free

-- a run in a list of runs
abbrev pub IsIn : Run → List Run → Type 0
IsIn r [] = ⊥
IsIn r (s ∷ rs) = (r ≡ s) ⊎ IsIn r rs

behind_later : (m n : ℕ) → m ≤ n → (rs : List Run) → AreBehind n rs → AreBehind m rs
behind_later m n le [] behind = tt
behind_later m n le (r ∷ rs) behind = (omega (arith, le, behind.0), behind_later m n le rs behind.1)

no_less : (a b : ℕ) → (a < b) ⊎ (b ≤ a)
no_less a b = grind arith

-- units that are free in a row are all in one run
pub in_one : (rs : List Run) → AreSpaced rs → (f n : ℕ) → 0 < n → IsFreeIn rs f n → (r : Run) × IsIn r rs × (r.first ≤ f) × (f + n ≤ run_end r)
in_one [] spaced f n some free = absurd (free f (omega arith) (omega (arith, some)))
in_one (r ∷ rs) spaced f n some free = ⊎_elim
    (λ here. ⊎_elim
    (λ beyond. absurd (⊎_elim
    (λ (in_it : (r.first ≤ run_end r) × (run_end r < run_end r)). (let no : ⊥ = omega (arith, in_it.1) in no))
    (λ later. (let no : ⊥ = omega (arith, free_behind (run_end r) rs spaced.0 (run_end r) later) in no))
    (free (run_end r) (omega (arith, here.1)) beyond)))
    (λ within. (r, inl refl, here.0, within))
    (no_less (run_end r) (f + n)))
    (λ later.
    let past : run_end r < f = free_behind (run_end r) rs spaced.0 f later in
    let rest : IsFreeIn rs f n = λ u le lt. ⊎_elim (λ here. absurd (let no : ⊥ = omega (arith, here.1, past, le) in no)) (λ l. l) (free u le lt) in
    let found = in_one rs spaced.1 f n some rest in
    (found.0, inr found.1, found.2, found.3))
    (free f (omega arith) (omega (arith, some)))

in_free : (rs : List Run) (r : Run) → IsIn r rs → (u : ℕ) → r.first ≤ u → u < run_end r → IsFree rs u
in_free [] r is u le lt = absurd is
in_free (s ∷ rs) r is u le lt = ⊎_elim (λ (same : r ≡ s). inl (subst (λ (x : Run). (x.first ≤ u) × (u < run_end x)) same (le, lt))) (λ later. inr (in_free rs r later u le lt)) is

abbrev pub EachRun : (Run → Type 0) → List Run → Type 0
EachRun P [] = Unit {0}
EachRun P (r ∷ rs) = P r × EachRun P rs

each_in : (P : Run → Type 0) (rs : List Run) (r : Run) → EachRun P rs → IsIn r rs → P r
each_in P [] r each is = absurd is
each_in P (s ∷ rs) r each is = ⊎_elim (λ (same : r ≡ s). subst P (sym same) each.0) (λ later. each_in P rs r each.1 later) is

-- no run is long enough, and this is the longest
pub full_at : (rs : List Run) → AreSpaced rs → (need largest : ℕ) → largest < need → EachRun (λ r. r.count ≤ largest) rs → (largest ≡ 0) ⊎ ((r : Run) × IsIn r rs × (r.count ≡ largest)) → IsFullAt (is_in_run rs) need largest
full_at rs spaced need largest less each some = record {
  shorter = less;
  longest = ⊎_elim (λ none. inl none) (λ found. inr (found.0.first, λ u le lt. of_free rs u (in_free rs found.0 found.1 u le (omega (arith, lt, found.2))))) some;
  none_longer = λ f m more free.
      let found = in_one rs spaced f m (omega (arith, more)) (λ u le lt. free_of rs u (free u le lt)) in
      let short = each_in (λ r. r.count ≤ largest) rs found.0 each found.1 in
      (let no : ⊥ = omega (arith, short, more, found.2, found.3) in no);
}

behind_free : (n : ℕ) (front : List Run) (r : Run) (back : List Run) → AreSpaced (front ++ r ∷ back) → (s : Run) → IsIn s front → run_end s < r.first
behind_free n [] r back spaced s is = absurd is
behind_free n (t ∷ front) r back spaced s is = ⊎_elim
    (λ (same : s ≡ t). subst (λ (x : Run). run_end x < r.first) (sym same) (last front spaced.0))
    (λ later. behind_free n front r back spaced.1 s later) is
  where
    last : (fs : List Run) → AreBehind (run_end t) (fs ++ r ∷ back) → run_end t < r.first
    last [] behind = behind.0
    last (x ∷ fs) behind = last fs behind.1

in_split : (front : List Run) (r : Run) (back : List Run) (s : Run) → IsIn s (front ++ r ∷ back) → IsIn s front ⊎ ((s ≡ r) ⊎ IsIn s back)
in_split [] r back s is = inr is
in_split (t ∷ front) r back s is = ⊎_elim (λ same. inl (inl same)) (λ later. ⊎_elim (λ f. inl (inr f)) (λ b. inr b) (in_split front r back s later)) is

in_here : (front : List Run) (r : Run) (back : List Run) → IsIn r (front ++ r ∷ back)
in_here [] r back = inl refl
in_here (t ∷ front) r back = inr (in_here front r back)

back_behind : (front : List Run) (r : Run) (back : List Run) → AreSpaced (front ++ r ∷ back) → AreBehind (run_end r) back
back_behind [] r back spaced = spaced.0
back_behind (t ∷ front) r back spaced = back_behind front r back spaced.1

in_behind : (n : ℕ) (rs : List Run) → AreBehind n rs → (s : Run) → IsIn s rs → n < s.first
in_behind n [] behind s is = absurd is
in_behind n (t ∷ rs) behind s is = ⊎_elim (λ (same : s ≡ t). subst (λ (x : Run). n < x.first) (sym same) behind.0) (λ later. in_behind n rs behind.1 s later) is

-- the first run that is long enough is the first that fits
pub first_fit : (front : List Run) (r : Run) (back : List Run) → AreSpaced (front ++ r ∷ back) → (need : ℕ) → 0 < need → EachRun (λ s. s.count < need) front → need ≤ r.count → FirstIn (front ++ r ∷ back) need r.first
first_fit front r back spaced need some short long = record {
  free = λ u le lt. in_free (front ++ r ∷ back) r (in_here front r back) u le (omega (arith, lt, long));
  earliest = λ f less free.
      let found = in_one (front ++ r ∷ back) spaced f need some free in
      ⊎_elim
      (λ ahead. (let no : ⊥ = omega (arith, each_in (λ s. s.count < need) front found.0 short ahead, found.2, found.3) in no))
      (λ rest. ⊎_elim
      (λ (same : found.0 ≡ r). (let no : ⊥ = omega (arith, less, subst (λ (x : Run). x.first ≤ f) same found.2) in no))
      (λ after. (let no : ⊥ = omega (arith, less, found.2, in_behind (run_end r) back (back_behind front r back spaced) found.0 after) in no)) rest)
      (in_split front r back found.0 found.1);
}

-- free units of two lists
pub free_split : (xs ys : List Run) (u : ℕ) → IsFree (xs ++ ys) u → IsFree xs u ⊎ IsFree ys u
free_split [] ys u free = inr free
free_split (x ∷ xs) ys u free = ⊎_elim (λ here. inl (inl here)) (λ later. ⊎_elim (λ f. inl (inr f)) (λ b. inr b) (free_split xs ys u later)) free

pub free_left : (xs ys : List Run) (u : ℕ) → IsFree xs u → IsFree (xs ++ ys) u
free_left [] ys u free = absurd free
free_left (x ∷ xs) ys u free = ⊎_elim (λ here. inl here) (λ later. inr (free_left xs ys u later)) free

pub free_right : (xs ys : List Run) (u : ℕ) → IsFree ys u → IsFree (xs ++ ys) u
free_right [] ys u free = free
free_right (x ∷ xs) ys u free = inr (free_right xs ys u free)

front_before : (front : List Run) (r : Run) (back : List Run) → AreSpaced (front ++ r ∷ back) → (u : ℕ) → IsFree front u → u < r.first
front_before [] r back spaced u free = absurd free
front_before (t ∷ front) r back spaced u free = ⊎_elim
    (λ here. omega (arith, here.1, last front spaced.0)) (λ later. front_before front r back spaced.1 u later) free
  where
    last : (fs : List Run) → AreBehind (run_end t) (fs ++ r ∷ back) → run_end t < r.first
    last [] behind = behind.0
    last (x ∷ fs) behind = last fs behind.1

-- the front of the run is taken
pub taken : (front : List Run) (r : Run) (back : List Run) → AreSpaced (front ++ r ∷ back) → (need : ℕ) → need ≤ r.count → (r' : Run) → r'.first ≡ r.first + need → r'.count ≡ r.count - need → TakenIn (front ++ r ∷ back) (front ++ r' ∷ back) r.first need
taken front r back spaced need long r' first count = record {
  stays = λ u free out. ⊎_elim
      (λ f. free_left front (r' ∷ back) u f)
      (λ rest. free_right front (r' ∷ back) u (⊎_elim
      (λ here. inl (⊎_elim (λ before. absurd (let no : ⊥ = omega (arith, before, here.0) in no)) (λ after. (let le : r'.first ≤ u = omega (arith, after, first) in le, let lt : u < run_end r' = omega (arith, here.1, first, count, long) in lt)) out))
      (λ b. inr b) rest))
      (free_split front (r ∷ back) u free);
  only = λ u free. ⊎_elim
      (λ f. (free_left front (r ∷ back) u f, inl (front_before front r back spaced u f)))
      (λ rest. ⊎_elim
      (λ here. (free_right front (r ∷ back) u (inl (let le : r.first ≤ u = omega (arith, here.0, first) in le, let lt : u < run_end r = omega (arith, here.1, first, count, long) in lt)), inr (let past : r.first + need ≤ u = omega (arith, here.0, first) in past)))
      (λ b. (free_right front (r ∷ back) u (inr b), inr (let past : r.first + need ≤ u = omega (arith, free_behind (run_end r) back (back_behind front r back spaced) u b, long) in past)))
      rest)
      (free_split front (r' ∷ back) u free);
}

pub at_index : (rs : List Run) (i : ℕ) (d : Run) → i < length rs → rs ≡ take i rs ++ slice_index_or rs i d ∷ drop (suc i) rs
at_index [] i d lt = absurd (let no : ⊥ = omega (arith, lt) in no)
at_index (r ∷ rs) zero d lt = refl
at_index (r ∷ rs) (suc i) d lt = ap (λ (xs : List Run). r ∷ xs) (at_index rs i d (omega (arith, lt)))

pub set_index : (rs : List Run) (i : ℕ) (x : Run) → i < length rs → slice_set rs i x ≡ take i rs ++ x ∷ drop (suc i) rs
set_index [] i x lt = absurd (let no : ⊥ = omega (arith, lt) in no)
set_index (r ∷ rs) zero x lt = refl
set_index (r ∷ rs) (suc i) x lt = ap (λ (xs : List Run). r ∷ xs) (set_index rs i x (omega (arith, lt)))

each_weaker : (P Q : Run → Type 0) → ((r : Run) → P r → Q r) → (rs : List Run) → EachRun P rs → EachRun Q rs
each_weaker P Q f [] each = tt
each_weaker P Q f (r ∷ rs) each = (f r each.0, each_weaker P Q f rs each.1)

-- one more run that is too short
pub each_more : (rs : List Run) (i largest : ℕ) (d : Run) → i < length rs → EachRun (λ r. r.count ≤ largest) (take i rs) → EachRun (λ r. r.count ≤ max largest (slice_index_or rs i d).count) (take (i + 1) rs)
each_more rs i largest d lt each = subst (λ (n : ℕ). EachRun (λ r. r.count ≤ max largest (slice_index_or rs i d).count) (take n rs)) (let one : suc i ≡ i + 1 = omega arith in one) (more rs i largest lt each)
  where
    more : (xs : List Run) (k m : ℕ) → k < length xs → EachRun (λ r. r.count ≤ m) (take k xs) → EachRun (λ r. r.count ≤ max m (slice_index_or xs k d).count) (take (suc k) xs)
    more [] k m lt each = absurd (let no : ⊥ = omega (arith, lt) in no)
    more (x ∷ xs) zero m lt each = (let le : x.count ≤ max m x.count = omega arith in le, tt)
    more (x ∷ xs) (suc k) m lt each = (let le : x.count ≤ max m (slice_index_or xs k d).count = omega (arith, each.0) in le, more xs k m (omega (arith, lt)) each.1)

pub in_index : (rs : List Run) (i : ℕ) (d : Run) → i < length rs → IsIn (slice_index_or rs i d) rs
in_index [] i d lt = absurd (let no : ⊥ = omega (arith, lt) in no)
in_index (r ∷ rs) zero d lt = inl refl
in_index (r ∷ rs) (suc i) d lt = inr (in_index rs i d (omega (arith, lt)))

-- the longest so far
abbrev pub IsLongest : ℕ → List Run → Type 0
IsLongest largest rs = (largest ≡ 0) ⊎ ((r : Run) × IsIn r rs × (r.count ≡ largest))

pub longest_more : (rs : List Run) (i largest : ℕ) (d : Run) → i < length rs → IsLongest largest rs → IsLongest (max largest (slice_index_or rs i d).count) rs
longest_more rs i largest d lt longest = elim (cases_lt largest (slice_index_or rs i d).count) [
  | inl less ↦ inr (slice_index_or rs i d, in_index rs i d lt, let same : (slice_index_or rs i d).count ≡ max largest (slice_index_or rs i d).count = omega (arith, less) in same)
  | inr more ↦ let same : largest ≡ max largest (slice_index_or rs i d).count = omega (arith, more) in subst (λ (n : ℕ). IsLongest n rs) same longest
]

-- the units after a run was taken, as a test
taken_test : (old new : List Run) (first n : ℕ) → TakenIn old new first n → (u : ℕ) → is_in_run new u ≡ (is_in_run old u && not (in_range first n u))
taken_test old new first n is u = elim (cases_Bool (is_in_run new u)) [
  | inl there ↦
      let only = is.only u (free_of new u there) in
      there ∙ sym (and_from (is_in_run old u) (not (in_range first n u)) (of_free old u only.0) (ap not (outside_range first n u only.1)))
  | inr gone ↦ gone ∙ sym (elim (cases_Bool (in_range first n u)) [
    | inl inside ↦ and_right (is_in_run old u) (not (in_range first n u)) (ap not inside)
    | inr outside ↦ elim (cases_Bool (is_in_run old u)) [
      | inl was ↦ absurd (let both : true ≡ false = sym (of_free new u (is.stays u (free_of old u was) (outside_cases first n u outside))) ∙ gone in cc)
      | inr wasnt ↦ ap (λ (t : Bool). t && not (in_range first n u)) wasnt
    ]
  ])
]

first_test : (rs : List Run) (n first : ℕ) → FirstIn rs n first → IsFirstFit (is_in_run rs) n first
first_test rs n first is = record {
  run = λ u le lt. of_free rs u (is.free u le lt);
  earliest = λ f less free. is.earliest f less (λ u le lt. free_of rs u (free u le lt));
}

pub place_ok : (rs : List Run) (i need largest : ℕ) (d : Run) → AreSpaced rs → i < length rs → 0 < need → largest < need → EachRun (λ r. r.count ≤ largest) (take i rs) → need ≤ (slice_index_or rs i d).count → (r' : Run) → r'.first ≡ (slice_index_or rs i d).first + need → r'.count ≡ (slice_index_or rs i d).count - need
    → IsFirstFit (is_in_run rs) need (slice_index_or rs i d).first × ((u : ℕ) → is_in_run (slice_set rs i r') u ≡ (is_in_run rs u && not (in_range (slice_index_or rs i d).first need u)))
place_ok rs i need largest d spaced lt some less each long r' first count =
    let split = at_index rs i d lt in
    let sp = subst AreSpaced split spaced in (
      first_test rs need (slice_index_or rs i d).first (subst (λ (xs : List Run). FirstIn xs need (slice_index_or rs i d).first) (sym split) (first_fit (take i rs) (slice_index_or rs i d) (drop (suc i) rs) sp need some (each_weaker (λ r. r.count ≤ largest) (λ r. r.count < need) (λ r le. omega (arith, le, less)) (take i rs) each) long)),
      taken_test rs (slice_set rs i r') (slice_index_or rs i d).first need (subst (λ (ys : List Run). TakenIn rs ys (slice_index_or rs i d).first need) (sym (set_index rs i r' lt)) (subst (λ (xs : List Run). TakenIn xs (take i rs ++ r' ∷ drop (suc i) rs) (slice_index_or rs i d).first need) (sym split) (taken (take i rs) (slice_index_or rs i d) (drop (suc i) rs) sp need long r' first count))),
    )
