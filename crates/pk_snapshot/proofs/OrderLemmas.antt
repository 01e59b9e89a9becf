-- What is shown of a sound body rises once it is sorted, and those that meet a range lie side by side.
use Rattle.std.proofs.Common.{◌≡◌, inl, inr, ℕ, suc, ◌+◌, ◌-◌, ◌*◌, ◌<◌, ◌≤◌, ◌++◌, ◌||◌, ◌&&◌, ◌∷◌, [], Bool, true, false, not, List, length, get_or, take, drop, refl, sym, ◌∙◌, ap, subst, arith, leb, ltb, length-drop}
use Rattle.std.specs.Prelude.{All}
use Rattle.std.specs.List.{AllByRecursion, IsDistinct, list_all, list_any}
use Rattle.std.specs.List.Sorted.{IsNonDecreasingBy, IsPartitionPoint, IsPermutation}
use Rattle.std.proofs.lemmas.Bool.{and_parts, cases_lt, leb-false, leb-true, ltb-false, ltb-true, not-true}
use Rattle.std.proofs.lemmas.Bool.Decides.{nat_tests}
use Rattle.std.proofs.lemmas.List.{get_or-drop, get_or-take, length-take-le, take-append-drop}
use Rattle.std.proofs.Math.Seq.{take-length}
use Rattle.std.proofs.lemmas.List.Elements.{All-append, All-cons, All-nil}
use Rattle.std.proofs.lemmas.List.Folds.{list_any-append}
use Rattle.std.proofs.lemmas.List.Sorted.{All-permutation, list_any-IsPermutation}
use Rattle.std.proofs.lemmas.Map.Keys.{IsDistinct-IsPermutation, apart_from_distinct}
use Rattle.pk_disk.specs.declared.units.Extent.{Extent}
use Rattle.pk_disk.specs.Units.{apart, end_of, lies_within, overlap, start_of}
use Rattle.pk_disk.proofs.Ranges.{or_both, or_left, or_right, outside_range}
use Rattle.pk_manifest.specs.declared.half.Half.{Half}
use Rattle.pk_manifest.specs.declared.half.Half.TheVariants.{A, B}
use Rattle.pk_manifest.specs.Evolves.{covers, is_in}
use Rattle.pk_manifest.specs.Sound.{IsBody, is_extent, named}
use Rattle.pk_manifest.specs.Spelling.{Body}
use Rattle.pk_manifest.proofs.Apart.{has_unit, overlap_flips}
use Rattle.pk_manifest.proofs.Ends.{each_named}
use Rattle.pk_manifest.proofs.Fields.{extents_of_disk}
use Rattle.pk_snapshot.specs.Order.{AreMet, CoverAlike, IsRising, MeetsRange, stop_of}
use Rattle.pk_snapshot.specs.Shared.{IsFilled}
use Rattle.pk_snapshot.proofs.FillLemmas.{or_false}
use Rattle.pk_snapshot.specs.Shown.{body_extent, gate_extent, own_extents}

-- WHAT IS SHOWN RISES. Its extents have units, which hold their bytes.
record HasUnits (e : Extent) : Type 0 where
  pub holds : stop_of e ≤ 512 * end_of e
  pub some : 0 < e.units

extent_fits : (units least : ℕ) (e : Extent) → is_extent units least e ≡ true → HasUnits e
extent_fits units least e h = record { holds = grind (arith, nat_tests); some = has_unit units least e h }

own_fit : (half : Half) → All HasUnits (own_extents half)
own_fit A = All-cons HasUnits (gate_extent A) (body_extent A ∷ []) (record { holds = omega arith; some = omega arith }) (All-cons HasUnits (body_extent A) [] (record { holds = omega arith; some = omega arith }) (All-nil HasUnits))
own_fit B = All-cons HasUnits (gate_extent B) (body_extent B ∷ []) (record { holds = omega arith; some = omega arith }) (All-cons HasUnits (body_extent B) [] (record { holds = omega arith; some = omega arith }) (All-nil HasUnits))

-- no two of them overlap
beside_own : (half : Half) (e : Extent) → 34 ≤ e.first → AllByRecursion (λ f. overlap e f ≡ false) (own_extents half)
beside_own A e low = (grind (arith, nat_tests), (grind (arith, nat_tests), tt))
beside_own B e low = (grind (arith, nat_tests), (grind (arith, nat_tests), tt))

none_meets : (half : Half) (e : Extent) (es : List Extent) → 34 ≤ e.first → list_any (overlap e) es ≡ false → AllByRecursion (λ f. overlap e f ≡ false) (es ++ own_extents half)
none_meets half e [] low none = beside_own half e low
none_meets half e (f ∷ es) low none = (or_left (overlap e f) (list_any (overlap e) es) none, none_meets half e es low (or_right (overlap e f) (list_any (overlap e) es) none))

own_distinct : (half : Half) → IsDistinct overlap (own_extents half)
unfolding IsDistinct
own_distinct A = ((refl, tt), (tt, tt))
own_distinct B = ((refl, tt), (tt, tt))

all_distinct : (half : Half) (units : ℕ) (es : List Extent) → list_all (lies_within units) es ≡ true → apart overlap es ≡ true → IsDistinct overlap (es ++ own_extents half)
unfolding IsDistinct
all_distinct half units [] within is = own_distinct half
all_distinct half units (e ∷ es) within is =
    let here = and_parts (lies_within units e) (list_all (lies_within units) es) within in
    let none = and_parts (not (list_any (overlap e) es)) (apart overlap es) is in
    let a = and_parts (leb 34 e.first && ltb 0 e.units) (leb (end_of e) units) here.0 in
    let b = and_parts (leb 34 e.first) (ltb 0 e.units) a.0 in
    (none_meets half e es (leb-true _ _ b.0) (not-true (list_any (overlap e) es) none.0), all_distinct half units es here.1 none.1)

-- two that are in order
in_order : (e f : Extent) → HasUnits e → HasUnits f → e.first ≤ f.first → overlap e f ≡ false → stop_of e ≤ stop_of f
in_order e f one two low none = grind (arith, nat_tests, one.holds, one.some, two.some, low, none)

module _ (half : Half) (b : Body) (sound : IsBody b.units b) (sorted : List Extent) (permuted : IsPermutation (named b ++ own_extents half) sorted) (by_first : IsNonDecreasingBy (λ (e : Extent). e.first) sorted) where
  distinct : IsDistinct overlap sorted
  distinct =
      let says = extents_of_disk b.units b sound in
      IsDistinct-IsPermutation overlap overlap_flips (named b ++ own_extents half) sorted permuted (all_distinct half b.units (named b) says.1 says.2)

  fit : All HasUnits sorted
  fit = All-permutation HasUnits (named b ++ own_extents half) sorted permuted (All-append HasUnits (named b) (own_extents half) (each_named HasUnits b.units (extent_fits b.units) b sound) (own_fit half))

  starts : IsNonDecreasingBy start_of sorted
  starts i j d le lt = omega (arith, by_first i j d le lt)

  stops : IsNonDecreasingBy stop_of sorted
  stops i j d le lt = elim (cases_lt i j) [
    | inl less ↦ in_order (get_or sorted i d) (get_or sorted j d) (fit i d (omega (arith, less, lt))) (fit j d lt) (by_first i j d le lt) (apart_from_distinct overlap sorted i j d distinct less lt)
    | inr past ↦ let same : i ≡ j = omega (arith, le, past) in subst (λ (k : ℕ). stop_of (get_or sorted i d) ≤ stop_of (get_or sorted k d)) same (omega arith)
  ]

  pub sorted_rises : IsRising sorted
  sorted_rises = record { starts = starts; stops = stops }

-- and it covers what they do
pub covers_alike : (es sorted : List Extent) → IsPermutation es sorted → CoverAlike sorted es
covers_alike es sorted permuted p = sym (list_any-IsPermutation (is_in p) es sorted permuted)

-- THOSE THAT MEET A RANGE
none_covers : (es : List Extent) (p : ℕ) → All (λ e. is_in p e ≡ false) es → covers es p ≡ false
none_covers [] p none = refl
none_covers (e ∷ es) p none = or_both (is_in p e) (covers es p) (none 0 e (omega arith)) (none_covers es p (λ k d lt. none (suc k) d (omega (arith, lt))))

module _ (xs : List Extent) (first at to : ℕ) (bound : first ≤ length xs) (point : IsPartitionPoint (λ e. leb (stop_of e) at ≡ true) (λ e. leb (stop_of e) at ≡ false) xs first)
    (rest : List Extent) (is : rest ≡ take (length xs - first) (drop first xs)) (count : ℕ) (bound_too : count ≤ length rest) (point_too : IsPartitionPoint (λ e. ltb (start_of e) to ≡ true) (λ e. ltb (start_of e) to ≡ false) rest count) where
  is_rest : rest ≡ drop first xs
  is_rest = is ∙ ap (λ (n : ℕ). take n (drop first xs)) (sym (length-drop first xs)) ∙ take-length (drop first xs)

  before : (p : ℕ) → at ≤ p → covers (take first xs) p ≡ false
  before p low = none_covers (take first xs) p (λ k d lt.
      let within : k < first = omega (arith, lt, length-take-le first xs bound) in
      let passed : stop_of (get_or xs k d) ≤ at = leb-true _ _ (point.0 k d (omega arith) within) in
      let same : get_or (take first xs) k d ≡ get_or xs k d = get_or-take first xs k d within in
      ap (is_in p) same ∙ outside_range (start_of (get_or xs k d)) (get_or xs k d).bytes p (inr (omega (arith, passed, low))))

  behind : (p : ℕ) → p < to → covers (drop count rest) p ≡ false
  behind p high = none_covers (drop count rest) p (λ k d lt.
      let within : count + k < length rest = omega (arith, lt, length-drop count rest) in
      let later : to ≤ start_of (get_or rest (count + k) d) = ltb-false _ _ (point_too.1 (count + k) d (omega arith) within) in
      let same : get_or (drop count rest) k d ≡ get_or rest (count + k) d = get_or-drop count rest k d in
      ap (is_in p) same ∙ outside_range (start_of (get_or rest (count + k) d)) (get_or rest (count + k) d).bytes p (inl (omega (arith, later, high))))

  parts : (n : ℕ) (es : List Extent) (p : ℕ) → covers es p ≡ (covers (take n es) p || covers (drop n es) p)
  parts n es p = ap (λ (l : List Extent). covers l p) (sym (take-append-drop n es)) ∙ list_any-append (is_in p) (take n es) (drop n es)

  met_alike : (p : ℕ) → at ≤ p → p < to → covers (take count rest) p ≡ covers xs p
  met_alike p low high =
      sym (or_false (covers (take count rest) p) (covers (drop count rest) p) (behind p high)) ∙ sym (parts count rest p)
      ∙ ap (λ (l : List Extent). covers l p) is_rest ∙ sym (ap (λ (t : Bool). t || covers (drop first xs) p) (before p low)) ∙ sym (parts first xs p)

  met_each : All (MeetsRange at to) (take count rest)
  met_each k d lt =
      let within : k < count = omega (arith, lt, length-take-le count rest bound_too) in
      let inside : k < length rest = omega (arith, within, bound_too) in
      let same : get_or (take count rest) k d ≡ get_or rest k d = get_or-take count rest k d within in
      let same_too : get_or rest k d ≡ get_or xs (first + k) d = ap (λ (l : List Extent). get_or l k d) is_rest ∙ get_or-drop first xs k d in
      let room : first + k < length xs = omega (arith, inside, ap length is_rest, length-drop first xs) in
      let starts : start_of (get_or rest k d) < to = ltb-true _ _ (point_too.0 k d (omega arith) within) in
      let stops : at < stop_of (get_or xs (first + k) d) = leb-false _ _ (point.1 (first + k) d (omega arith) room) in
      (subst (λ (e : Extent). start_of e < to) (sym same) starts, subst (λ (e : Extent). at < stop_of e) (sym (same ∙ same_too)) stops)

  pub are_met : AreMet at to xs (take count rest)
  are_met = record { each = met_each; same = met_alike }

-- a range that is filled from those that meet it
pub filled_met : (old new : List ℕ) (all met : List Extent) (at to : ℕ) (out : List ℕ) → at + length out ≡ to → AreMet at to all met → IsFilled old new met at out → IsFilled old new all at out
filled_met old new all met at to out end are filled i lt =
    let same : covers met (at + i) ≡ covers all (at + i) = are.same (at + i) (omega arith) (omega (arith, lt, end)) in
    (λ yes. (filled i lt).0 (same ∙ yes), λ no. (filled i lt).1 (same ∙ no))
