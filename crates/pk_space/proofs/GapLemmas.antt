-- The runs between rising extents: they hold just the free units, and rise with gaps.
use Rattle.std.proofs.Common.{◌≡◌, inl, inr, ℕ, suc, ◌+◌, ◌-◌, ◌<◌, ◌≤◌, ◌&&◌, ◌||◌, Bool, true, false, not, if◌then◌else◌, ltb, leb, max, List, [], ◌∷◌, length, get_or, refl, sym, ◌∙◌, ap, subst, arith}
use Rattle.std.specs.List.{list_any, list_all}
use Rattle.std.specs.List.Sorted.{IsPermutation}
use Rattle.std.proofs.lemmas.Bool.{cases_lt, lt-ltb, le-ltb, le-leb, lt-leb, ltb-true, leb-true, and_from, and_parts, and_right}
use Rattle.std.proofs.lemmas.List.Sorted.{list_any-IsPermutation, All-permutation}
use Rattle.std.proofs.lemmas.List.Sums.{AllPass-from_list_all, list_all-from_AllPass}
use Rattle.pk_disk.specs.declared.units.Extent.{Extent}
use Rattle.pk_disk.specs.Disk.{in_range}
use Rattle.pk_disk.specs.Units.{end_of, lies_within}
use Rattle.pk_disk.proofs.Ranges.{or_both, outside_range}
use Rattle.pk_space.specs.declared.runs.Run.{Run}
use Rattle.pk_space.specs.Free.{has_unit, free_at}
use Rattle.pk_space.specs.Runs.{are_spaced, gaps, is_in_run, run_end}

-- each extent begins at or past low
abbrev pub EachFrom : ℕ → List Extent → Type 0
EachFrom low [] = Unit {0}
EachFrom low (e ∷ es) = (low ≤ e.first) × EachFrom low es

-- the extents rise by their first units
abbrev pub Rises : List Extent → Type 0
Rises [] = Unit {0}
Rises (e ∷ es) = EachFrom e.first es × Rises es

each_from : (low : ℕ) (d : Extent) (es : List Extent) → ((j : ℕ) → j < length es → low ≤ (get_or es j d).first) → EachFrom low es
each_from low d [] each = tt
each_from low d (e ∷ es) each = (each 0 (omega arith), each_from low d es (λ j lt. each (suc j) (omega (arith, lt))))

-- from the order by index that a sort gives
pub rises_sorted : (d : Extent) (es : List Extent) → ((i j : ℕ) → i ≤ j → j < length es → (get_or es i d).first ≤ (get_or es j d).first) → Rises es
rises_sorted d [] sorted = tt
rises_sorted d (e ∷ es) sorted = (
  each_from e.first d es (λ j lt. sorted 0 (suc j) (omega arith) (omega (arith, lt))),
  rises_sorted d es (λ i j le lt. sorted (suc i) (suc j) (omega (arith, le)) (omega (arith, lt))),
)

pub inside_range : (at n p : ℕ) → at ≤ p → p < at + n → in_range at n p ≡ true
inside_range at n p le lt = and_from (leb at p) (ltb p (at + n)) (le-leb at p le) (lt-ltb p (at + n) lt)

-- no extent has a unit before all of them
pub none_has : (u low : ℕ) (es : List Extent) → u < low → EachFrom low es → list_any (has_unit u) es ≡ false
none_has u low [] lt from = refl
none_has u low (e ∷ es) lt from = or_both (has_unit u e) (list_any (has_unit u) es) (outside_range e.first e.units u (inl (omega (arith, lt, from.0)))) (none_has u low es lt from.1)

-- a run that is there or isn't, in front of others
skip_run : (b : Bool) (r : Run) (rs : List Run) (u : ℕ) → in_range r.first r.count u ≡ false → is_in_run (if b then r ∷ rs else rs) u ≡ is_in_run rs u
skip_run true r rs u out = ap (λ (t : Bool). t || is_in_run rs u) out
skip_run false r rs u out = refl

in_run : (b : Bool) (r : Run) (rs : List Run) (u : ℕ) → b ≡ true → in_range r.first r.count u ≡ true → is_in_run (if b then r ∷ rs else rs) u ≡ true
in_run true r rs u is inside = ap (λ (t : Bool). t || is_in_run rs u) inside
in_run false r rs u is inside = absurd cc

max_left : (a b : ℕ) → a ≤ max a b
max_left a b = omega arith

max_right : (a b : ℕ) → b ≤ max a b
max_right a b = omega arith

-- nothing before low
below_gaps : (low units : ℕ) (es : List Extent) (u : ℕ) → u < low → is_in_run (gaps low units es) u ≡ false
below_gaps low units [] u lt = skip_run (ltb low units) (record { first = low; count = units - low }) [] u (outside_range low (units - low) u (inl lt))
below_gaps low units (e ∷ es) u lt =
    skip_run (ltb low e.first) (record { first = low; count = e.first - low }) (gaps (max low (end_of e)) units es) u (outside_range low (e.first - low) u (inl lt))
    ∙ below_gaps (max low (end_of e)) units es u (let later : u < max low (end_of e) = omega (arith, lt, max_left low (end_of e)) in later)

-- the unit of an extent that lies within the disk
pub record Within (units : ℕ) (e : Extent) : Type 0 where
  pub low : 34 ≤ e.first
  pub some : 0 < e.units
  pub high : e.first + e.units ≤ units

pub within : (units : ℕ) (e : Extent) → lies_within units e ≡ true → Within units e
within units e h =
    let a = and_parts (leb 34 e.first && ltb 0 e.units) (leb (e.first + e.units) units) h in
    let b = and_parts (leb 34 e.first) (ltb 0 e.units) a.0 in
    record { low = leb-true _ _ b.0; some = ltb-true _ _ b.1; high = leb-true _ _ a.1 }

-- past the last extent
last_gap : (low units u : ℕ) → low ≤ u → is_in_run (gaps low units []) u ≡ (ltb u units && true)
last_gap low units u le = elim (cases_lt u units) [
  | inl lt ↦
      in_run (ltb low units) (record { first = low; count = units - low }) [] u (lt-ltb low units (omega (arith, le, lt))) (inside_range low (units - low) u le (omega (arith, le, lt)))
      ∙ sym (ap (λ (t : Bool). t && true) (lt-ltb u units lt))
  | inr ge ↦
      let no = le-ltb u units ge in
      skip_run (ltb low units) (record { first = low; count = units - low }) [] u (outside_range low (units - low) u (inr (omega (arith, le, ge))))
      ∙ sym (ap (λ (t : Bool). t && true) no)
]

-- a unit is in a gap just where no extent has it
free_gaps : (low units : ℕ) (es : List Extent) (u : ℕ) → Rises es → list_all (lies_within units) es ≡ true → low ≤ u → is_in_run (gaps low units es) u ≡ (ltb u units && not (list_any (has_unit u) es))
free_gaps low units [] u rises all le = last_gap low units u le
free_gaps low units (e ∷ es) u rises all le =
    let parts = and_parts (lies_within units e) (list_all (lies_within units) es) all in
    let is = within units e parts.0 in
    let run : Run = record { first = low; count = e.first - low } in
    let next = max low (end_of e) in
    let rest = gaps next units es in
    elim (cases_lt u e.first) [
      | inl before ↦
          let none : list_any (has_unit u) (e ∷ es) ≡ false = none_has u e.first (e ∷ es) before (omega arith, rises.0) in
          in_run (ltb low e.first) run rest u (lt-ltb low e.first (omega (arith, le, before))) (inside_range low (e.first - low) u le (omega (arith, le, before)))
          ∙ sym (and_from (ltb u units) (not (list_any (has_unit u) (e ∷ es))) (lt-ltb u units (omega (arith, before, is.high))) (ap not none))
      | inr after ↦
          let skip = skip_run (ltb low e.first) run rest u (outside_range low (e.first - low) u (inr (omega (arith, le, after)))) in
          elim (cases_lt u (end_of e)) [
            | inl inside ↦
                let has : list_any (has_unit u) (e ∷ es) ≡ true = ap (λ (t : Bool). t || list_any (has_unit u) es) (inside_range e.first e.units u after inside) in
                skip ∙ below_gaps next units es u (omega (arith, inside, max_right low (end_of e)))
                ∙ sym (and_right (ltb u units) (not (list_any (has_unit u) (e ∷ es))) (ap not has))
            | inr past ↦
                let hasnt : list_any (has_unit u) (e ∷ es) ≡ list_any (has_unit u) es = ap (λ (t : Bool). t || list_any (has_unit u) es) (outside_range e.first e.units u (inr past)) in
                skip ∙ free_gaps next units es u rises.1 parts.1 (let from : next ≤ u = omega (arith, le, past) in from)
                ∙ sym (ap (λ (t : Bool). ltb u units && not t) hasnt)
          ]
    ]

-- the gaps of sorted extents, by the extents as they were given
pub free_of_gaps : (units : ℕ) (extents sorted : List Extent) (u : ℕ) → IsPermutation extents sorted → Rises sorted → list_all (lies_within units) sorted ≡ true → is_in_run (gaps 34 units sorted) u ≡ free_at units extents u
free_of_gaps units extents sorted u permuted rises all =
    let same = list_any-IsPermutation (has_unit u) extents sorted permuted in
    elim (cases_lt u 34) [
      | inl low ↦
          let no = lt-leb 34 u low in
          below_gaps 34 units sorted u low ∙ sym (ap (λ (t : Bool). t && ltb u units && not (list_any (has_unit u) extents)) no)
      | inr high ↦
          free_gaps 34 units sorted u rises all high
          ∙ ap (λ (t : Bool). ltb u units && not t) (sym same)
          ∙ sym (ap (λ (t : Bool). t && ltb u units && not (list_any (has_unit u) extents)) (le-leb 34 u high))
    ]

pub all_sorted : (units : ℕ) (extents sorted : List Extent) → IsPermutation extents sorted → list_all (lies_within units) extents ≡ true → list_all (lies_within units) sorted ≡ true
all_sorted units extents sorted permuted all =
    list_all-from_AllPass (lies_within units) sorted (All-permutation (λ (e : Extent). lies_within units e ≡ true) extents sorted permuted (AllPass-from_list_all (lies_within units) extents all))

-- spaced from a lower unit on, and up to a higher one
pub spaced_wider : (low low' high high' : ℕ) (rs : List Run) → low ≤ low' → high' ≤ high → are_spaced low' high' rs ≡ true → are_spaced low high rs ≡ true
spaced_wider low low' high high' [] le ge h = refl
spaced_wider low low' high high' (r ∷ rs) le ge h =
    let a = and_parts (leb low' r.first && leb (run_end r) high') (are_spaced (run_end r + 1) high' rs) h in
    let b = and_parts (leb low' r.first) (leb (run_end r) high') a.0 in
    and_from (leb low r.first && leb (run_end r) high) (are_spaced (run_end r + 1) high rs)
    (and_from (leb low r.first) (leb (run_end r) high)
    (le-leb low r.first (omega (arith, le, leb-true _ _ b.0)))
    (le-leb (run_end r) high (omega (arith, ge, leb-true _ _ b.1))))
    (spaced_wider (run_end r + 1) (run_end r + 1) high high' rs (omega arith) ge a.1)

spaced_either : (low high : ℕ) (b : Bool) (r : Run) (rs : List Run) → (b ≡ true → are_spaced low high (r ∷ rs) ≡ true) → are_spaced low high rs ≡ true → are_spaced low high (if b then r ∷ rs else rs) ≡ true
spaced_either low high true r rs with_run without = with_run refl
spaced_either low high false r rs with_run without = without

spaced_run : (low high first end : ℕ) (rs : List Run) → low ≤ first → first ≤ end → end ≤ high → are_spaced (end + 1) high rs ≡ true → are_spaced low high (record { first = first; count = end - first } ∷ rs) ≡ true
spaced_run low high first end rs le up within_high rest =
    let whole : first + (end - first) ≡ end = omega (arith, up) in
    and_from (leb low first && leb (first + (end - first)) high) (are_spaced (first + (end - first) + 1) high rs)
    (and_from (leb low first) (leb (first + (end - first)) high) (le-leb low first le) (le-leb _ high (omega (arith, whole, within_high))))
    (subst (λ (n : ℕ). are_spaced (n + 1) high rs ≡ true) (sym whole) rest)

-- the gaps rise, with an extent between each two
spaced_gaps : (low units : ℕ) (es : List Extent) → list_all (lies_within units) es ≡ true → are_spaced low units (gaps low units es) ≡ true
spaced_gaps low units [] all =
    spaced_either low units (ltb low units) (record { first = low; count = units - low }) []
    (λ is. spaced_run low units low units [] (omega arith) (let le : low ≤ units = omega (arith, ltb-true low units is) in le) (omega arith) refl) refl
spaced_gaps low units (e ∷ es) all =
    let parts = and_parts (lies_within units e) (list_all (lies_within units) es) all in
    let is = within units e parts.0 in
    let next = max low (end_of e) in
    let rest = spaced_gaps next units es parts.1 in
    spaced_either low units (ltb low e.first) (record { first = low; count = e.first - low }) (gaps next units es)
    (λ gap. spaced_run low units low e.first (gaps next units es) (omega arith) (let le : low ≤ e.first = omega (arith, ltb-true low e.first gap) in le) (let le : e.first ≤ units = omega (arith, is.high) in le)
    (spaced_wider (e.first + 1) next units units (gaps next units es) (let le : e.first + 1 ≤ next = omega (arith, is.some, max_right low (end_of e)) in le) (omega arith) rest))
    (spaced_wider low next units units (gaps next units es) (max_left low (end_of e)) (omega arith) rest)

pub gaps_are_spaced : (units : ℕ) (es : List Extent) → units ≤ 4294967295 → list_all (lies_within units) es ≡ true → are_spaced 0 4294967295 (gaps 34 units es) ≡ true
gaps_are_spaced units es small all = spaced_wider 0 34 4294967295 units (gaps 34 units es) (omega arith) small (spaced_gaps 34 units es all)
