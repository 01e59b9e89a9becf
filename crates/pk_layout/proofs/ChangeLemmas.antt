-- What becomes of the open segments and of the entries: new lists at their places, and a run replaced.
use Rattle.std.proofs.Common.{◌≡◌, ◌⊎◌, ⊎_elim, ℕ, zero, suc, ◌+◌, ◌<◌, ◌≤◌, ◌++◌, Bool, true, false, List, [], ◌∷◌, length, length-append, map, drop, get_or, set, refl, sym, ◌∙◌, ap, arith, append-nil, append_assoc}
use Rattle.std.specs.Prelude.{All, if◌then◌else◌}
use Rattle.std.proofs.lemmas.List.{drop_all, drop_more, take_all}
use Rattle.std.proofs.lemmas.List.Elements.{All-cons, All-nil}
use Rattle.pk_disk.specs.declared.units.Extent.{Extent}
use Rattle.pk_open.specs.declared.opened.OpenSegment.{OpenSegment}
use Rattle.pk_open.specs.Opened.{entries_of, pends}
use Rattle.pk_state.specs.Writing.{replaced}
use Rattle.pk_layout.specs.declared.change.NewList.{NewList}
use Rattle.pk_layout.specs.Change.{listed, made_at, new_lists_in, with_list, with_lists}
use Rattle.pk_layout.specs.Plan.{settled, settled_in}

-- ---- an item made another

-- put back
pub put_at : {X : Type 0} (f : X → X) (xs : List X) (i : ℕ) (x : X) → i < length xs → x ≡ get_or xs i x → set xs i (f x) ≡ made_at f i xs
put_at f [] i x lt at = absurd (omega (arith, lt))
put_at f (y ∷ xs) zero x lt at = ap (λ z. f z ∷ xs) at
put_at f (y ∷ xs) (suc i) x lt at = ap (λ ys. y ∷ ys) (put_at f xs i x (omega (arith, lt)) at)

made_long : {X : Type 0} (f : X → X) (i : ℕ) (xs : List X) → length (made_at f i xs) ≡ length xs
made_long f i [] = refl
made_long f zero (x ∷ xs) = refl
made_long f (suc i) (x ∷ xs) = ap suc (made_long f i xs)

made_behind : {X : Type 0} (f : X → X) (pre : List X) (x : X) (xs : List X) (k : ℕ) → length pre ≡ k → made_at f k (pre ++ x ∷ xs) ≡ pre ++ f x ∷ xs
made_behind f [] x xs k same = ap (λ n. made_at f n (x ∷ xs)) (sym same)
made_behind f (p ∷ pre) x xs k same = ap (λ n. made_at f n (p ∷ (pre ++ x ∷ xs))) (sym same) ∙ ap (λ ys. p ∷ ys) (made_behind f pre x xs (length pre) refl)

made_map : {X Y : Type 0} (g : X → Y) (f : X → X) (h : Y → Y) → ((x : X) → g (f x) ≡ h (g x)) → (i : ℕ) (xs : List X) → map g (made_at f i xs) ≡ made_at h i (map g xs)
made_map g f h same i [] = refl
made_map g f h same zero (x ∷ xs) = ap (λ y. y ∷ map g xs) (same x)
made_map g f h same (suc i) (x ∷ xs) = ap (λ ys. g x ∷ ys) (made_map g f h same i xs)

-- ---- lists put one after the other

pub lists_long : (os : List OpenSegment) (ls : List NewList) → length (with_lists os ls) ≡ length os
lists_long os [] = refl
lists_long os (l ∷ ls) = lists_long (made_at (listed l) l.place os) ls ∙ made_long (listed l) l.place os

-- one more
pub lists_last : (os : List OpenSegment) (ls : List NewList) (l : NewList) → with_lists os (ls ++ l ∷ []) ≡ made_at (listed l) l.place (with_lists os ls)
lists_last os [] l = refl
lists_last os (k ∷ ls) l = lists_last (made_at (listed k) k.place os) ls l

-- and of their entries
pub entries_last : (os : List OpenSegment) (ls : List NewList) (l : NewList) → entries_of (with_lists os (ls ++ l ∷ [])) ≡ made_at (λ e. with_list e l.extent) l.place (entries_of (with_lists os ls))
entries_last os ls l = ap entries_of (lists_last os ls l) ∙ made_map (λ (o : OpenSegment). o.entry) (listed l) (λ e. with_list e l.extent) (λ o. refl) l.place (with_lists os ls)

-- ---- the lists of the segments with a pending deletion

none_in : (i : ℕ) (os : List OpenSegment) → new_lists_in i os [] ≡ []
none_in i [] = refl
none_in i (o ∷ os) = refl

module _ (os : List OpenSegment) (xs : List Extent) (i n : ℕ) (o : OpenSegment) (lt : i < length os) (at : o ≡ get_or os i o) where
  here : drop i os ≡ o ∷ drop (i + 1) os
  here = drop_more os i o lt ∙ ap (λ (p : OpenSegment). p ∷ drop (i + 1) os) (sym at)

  -- one gets its list
  pub lists_more : (x : Extent) → n < length xs → x ≡ get_or xs n x → pends o ≡ true
      → new_lists_in i (drop i os) (drop n xs) ≡ record { place = i; extent = x; numbers = o.deleted } ∷ new_lists_in (i + 1) (drop (i + 1) os) (drop (n + 1) xs)
  lists_more x within is pending =
      let next : drop n xs ≡ x ∷ drop (n + 1) xs = drop_more xs n x within ∙ ap (λ (y : Extent). y ∷ drop (n + 1) xs) (sym is) in
      let rest = drop (i + 1) os in
      let more = drop (n + 1) xs in
      (λ j. new_lists_in i (here j) (next j))
      ∙ ap (λ b. if b then record { place = i; extent = x; numbers = o.deleted } ∷ new_lists_in (i + 1) rest more else new_lists_in (i + 1) rest (x ∷ more)) pending

  -- one needs none, or there is no extent for it
  pub lists_same : (pends o ≡ false) ⊎ (length xs ≤ n) → new_lists_in i (drop i os) (drop n xs) ≡ new_lists_in (i + 1) (drop (i + 1) os) (drop n xs)
  lists_same either = ap (λ us. new_lists_in i us (drop n xs)) here ∙ ⊎_elim (λ none. quiet none (drop n xs)) (λ le. past (drop n xs) (drop_all n xs le)) either
    where
      rest : List OpenSegment
      rest = drop (i + 1) os

      quiet : pends o ≡ false → (ys : List Extent) → new_lists_in i (o ∷ rest) ys ≡ new_lists_in (i + 1) rest ys
      quiet none [] = sym (none_in (i + 1) rest)
      quiet none (y ∷ ys) = ap (λ b. if b then record { place = i; extent = y; numbers = o.deleted } ∷ new_lists_in (i + 1) rest ys else new_lists_in (i + 1) rest (y ∷ ys)) none

      past : (ys : List Extent) → ys ≡ [] → new_lists_in i (o ∷ rest) ys ≡ new_lists_in (i + 1) rest ys
      past ys none = ap (new_lists_in i (o ∷ rest)) none ∙ sym (none_in (i + 1) rest) ∙ ap (new_lists_in (i + 1) rest) (sym none)

-- they have places among so many
pub lists_within : (n i : ℕ) (os : List OpenSegment) (xs : List Extent) → i + length os ≤ n → All (λ (l : NewList). l.place < n) (new_lists_in i os xs)
lists_within n i [] xs le = All-nil (λ (l : NewList). l.place < n)
lists_within n i (o ∷ os) [] le = All-nil (λ (l : NewList). l.place < n)
lists_within n i (o ∷ os) (x ∷ xs) le = by (pends o) (lists_within n (i + 1) os xs (omega (arith, le))) (lists_within n (i + 1) os (x ∷ xs) (omega (arith, le)))
  where
    by : (b : Bool) → All (λ (l : NewList). l.place < n) (new_lists_in (i + 1) os xs) → All (λ (l : NewList). l.place < n) (new_lists_in (i + 1) os (x ∷ xs))
        → All (λ (l : NewList). l.place < n) (if b then record { place = i; extent = x; numbers = o.deleted } ∷ new_lists_in (i + 1) os xs else new_lists_in (i + 1) os (x ∷ xs))
    by true more same = All-cons (λ (l : NewList). l.place < n) (record { place = i; extent = x; numbers = o.deleted }) (new_lists_in (i + 1) os xs) (omega (arith, le)) more
    by false more same = same

-- put at their places they settle what is pending
settled_behind : (pre os : List OpenSegment) (xs : List Extent) (k : ℕ) → length pre ≡ k → with_lists (pre ++ os) (new_lists_in k os xs) ≡ pre ++ settled_in os xs
settled_behind pre [] [] k same = refl
settled_behind pre [] (x ∷ xs) k same = refl
settled_behind pre (o ∷ os) [] k same = refl
settled_behind pre (o ∷ os) (x ∷ xs) k same =
    by (pends o) (λ us long. settled_behind us os xs (k + 1) long) (λ us long. settled_behind us os (x ∷ xs) (k + 1) long)
  where
    longer : (u : OpenSegment) → length (pre ++ u ∷ []) ≡ k + 1
    longer u = length-append pre (u ∷ []) ∙ ap (λ n. n + 1) same

    by : (b : Bool) → ((us : List OpenSegment) → length us ≡ k + 1 → with_lists (us ++ os) (new_lists_in (k + 1) os xs) ≡ us ++ settled_in os xs)
        → ((us : List OpenSegment) → length us ≡ k + 1 → with_lists (us ++ os) (new_lists_in (k + 1) os (x ∷ xs)) ≡ us ++ settled_in os (x ∷ xs))
        → with_lists (pre ++ o ∷ os) (if b then record { place = k; extent = x; numbers = o.deleted } ∷ new_lists_in (k + 1) os xs else new_lists_in (k + 1) os (x ∷ xs))
        ≡ pre ++ (if b then settled x o ∷ settled_in os xs else o ∷ settled_in os (x ∷ xs))
    by true more keep =
        let l : NewList = record { place = k; extent = x; numbers = o.deleted } in
        ap (λ us. with_lists us (new_lists_in (k + 1) os xs)) (made_behind (listed l) pre o os k same ∙ sym (append_assoc pre (settled x o ∷ []) os))
        ∙ more (pre ++ settled x o ∷ []) (longer (settled x o)) ∙ append_assoc pre (settled x o ∷ []) (settled_in os xs)
    by false more keep =
        ap (λ us. with_lists us (new_lists_in (k + 1) os (x ∷ xs))) (sym (append_assoc pre (o ∷ []) os))
        ∙ keep (pre ++ o ∷ []) (longer o) ∙ append_assoc pre (o ∷ []) (settled_in os (x ∷ xs))

pub lists_settle : (os : List OpenSegment) (xs : List Extent) → with_lists os (new_lists_in 0 os xs) ≡ settled_in os xs
lists_settle os xs = settled_behind [] os xs 0 refl

-- ---- a run replaced

-- none at the end
pub behind_all : {X : Type 0} (n : ℕ) (new xs : List X) → length xs ≡ n → replaced n 0 new xs ≡ xs ++ new
behind_all n new xs same = (λ i. take_all n xs (omega (arith, same)) i ++ (new ++ drop_all (n + 0) xs (omega (arith, same)) i)) ∙ ap (λ ys. xs ++ ys) (append-nil new)
