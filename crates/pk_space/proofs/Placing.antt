-- Of so many units a run is free or none is, in one way; so lengths are placed or full, in one way.
use Rattle.std.proofs.Common.{◌≡◌, ◌⊎◌, inl, inr, ℕ, zero, suc, ◌+◌, ◌<◌, ◌≤◌, ◌&&◌, Bool, true, false, not, nat_le, nat_lt, List, [], ◌∷◌, refl, ap, sym, ◌∙◌, subst, arith}
use Rattle.std.specs.List.{list_any}
use Rattle.std.proofs.lemmas.Bool.{cases_Bool, cases_lt, and_parts, ltb-true}
use Rattle.pk_disk.specs.Units.{first_unit, units_for}
use Rattle.pk_disk.specs.declared.units.Extent.{Extent}
use Rattle.pk_space.specs.Free.{IsFirstFit, IsFreeRun, IsFullAt, free_at, has_unit}
use Rattle.pk_space.specs.Places.{FullAs, IsPlacedIn, PlacedAs}

module _ (free : ℕ → Bool) where
  -- a run is free, or not
  run_cases : (first n : ℕ) → IsFreeRun free first n ⊎ (IsFreeRun free first n → ⊥)
  run_cases first zero = inl (λ u le lt. absurd (let no : ⊥ = omega (arith, le, lt) in no))
  run_cases first (suc n) = elim (run_cases first n) [
    | inr fails ↦ inr (λ run. fails (λ u le lt. run u le (omega (arith, lt))))
    | inl run ↦ elim (cases_Bool (free (first + n))) [
      | inl last ↦ inl (λ u le lt. elim (cases_lt u (first + n)) [
        | inl before ↦ run u le before
        | inr at ↦ (let same : u ≡ first + n = omega (arith, at, lt) in ap free same ∙ last)
      ])
      | inr taken ↦ inr (λ more. let both : true ≡ false = sym (more (first + n) (omega arith) (omega arith)) ∙ taken in cc)
    ]
  ]

  -- the first run of n units that begins before a bound, or none does
  first_before : (n bound : ℕ) → ((first : ℕ) × IsFirstFit free n first) ⊎ ((f : ℕ) → f < bound → IsFreeRun free f n → ⊥)
  first_before n zero = inr (λ f lt run. (let no : ⊥ = omega (arith, lt) in no))
  first_before n (suc bound) = elim (first_before n bound) [
    | inl found ↦ inl found
    | inr none ↦ elim (run_cases bound n) [
      | inl run ↦ inl (bound, record { run = run; earliest = none })
      | inr fails ↦ inr (λ f lt run. elim (cases_lt f bound) [
        | inl before ↦ none f before run
        | inr at ↦ (let same : f ≡ bound = omega (arith, at, lt) in fails (subst (λ k. IsFreeRun free k n) same run))
      ])
    ]
  ]

  -- a longer run has a shorter one in front
  shorter_run : (f m n : ℕ) → n ≤ m → IsFreeRun free f m → IsFreeRun free f n
  shorter_run f m n le run = λ u from lt. run u from (omega (arith, lt, le))

  module _ (units : ℕ) (below : (u : ℕ) → free u ≡ true → u < units) where
    -- the first run of n units, or there is none
    fits_or_none : (n : ℕ) → ((first : ℕ) × IsFirstFit free n first) ⊎ ((f : ℕ) → IsFreeRun free f n → ⊥)
    fits_or_none zero = inl (
      0,
      record {
        run = λ u le lt. absurd (let no : ⊥ = omega (arith, le, lt) in no);
        earliest = λ f lt run. (let no : ⊥ = omega (arith, lt) in no);
      },
    )
    fits_or_none (suc n) = elim (first_before (suc n) units) [
      | inl found ↦ inl found
      | inr none ↦ inr (λ f run. none f (below f (run f (omega arith) (omega arith))) run)
    ]

    -- where no run of n units is free, the longest has fewer
    longest_below : (n : ℕ) → ((f : ℕ) → IsFreeRun free f n → ⊥) → (largest : ℕ) × IsFullAt free n largest
    longest_below zero none = absurd (none 0 (λ u le lt. absurd (let no : ⊥ = omega (arith, le, lt) in no)))
    longest_below (suc n) none = elim (fits_or_none n) [
      | inl found ↦ (
        n,
        record {
          shorter = omega arith;
          longest = inr (found.0, found.1.run);
          none_longer = λ f m more run. none f (shorter_run f m (suc n) more run);
        },
      )
      | inr fails ↦ (let less = longest_below n fails in (
        less.0,
        record {
          shorter = (let fewer : less.0 < n = less.1.shorter in omega (arith, fewer));
          longest = less.1.longest;
          none_longer = less.1.none_longer;
        },
      ))
    ]

    pub fits_or_full : (n : ℕ) → ((first : ℕ) × IsFirstFit free n first) ⊎ ((largest : ℕ) × IsFullAt free n largest)
    fits_or_full n = elim (fits_or_none n) [
      | inl found ↦ inl found
      | inr none ↦ inr (longest_below n none)
    ]

  -- there is one first run
  pub one_first : (n a b : ℕ) → IsFirstFit free n a → IsFirstFit free n b → a ≡ b
  one_first n a b fa fb =
      let not_before : (a < b) → ⊥ = λ h. fb.earliest a h fa.run in
      let not_after : (b < a) → ⊥ = λ h. fa.earliest b h fb.run in
      omega (arith, not_before, not_after)

  -- and one longest
  not_longer : (n a b : ℕ) → IsFullAt free n a → IsFullAt free n b → a < b → ⊥
  not_longer n a b fa fb lt = elim fb.longest [
    | inl none ↦ (let no : ⊥ = omega (arith, lt, none) in no)
    | inr found ↦ fa.none_longer found.0 b lt found.1
  ]

  pub one_longest : (n a b : ℕ) → IsFullAt free n a → IsFullAt free n b → a ≡ b
  one_longest n a b fa fb = omega (arith, not_longer n a b fa fb, not_longer n b a fb fa)

  -- never both
  pub fits_not_full : (n first largest : ℕ) → IsFirstFit free n first → IsFullAt free n largest → ⊥
  fits_not_full n first largest fit full = full.none_longer first n full.shorter fit.run

-- what is free lies below the units of the disk
pub free_below : (units : ℕ) (taken : List Extent) (u : ℕ) → free_at units taken u ≡ true → u < units
free_below units taken u is =
    let a = and_parts (nat_le first_unit u && nat_lt u units) (not (list_any (has_unit u) taken)) is in
    ltb-true u units (and_parts (nat_le first_unit u) (nat_lt u units) a.0).1

same_extent : (a b : Extent) → a.first ≡ b.first → a.units ≡ b.units → a.bytes ≡ b.bytes → a ≡ b
same_extent a b first units bytes =
    ap (λ x. record { first = x; units = a.units; bytes = a.bytes }) first
    ∙ (ap (λ x. record { first = b.first; units = x; bytes = a.bytes }) units
    ∙ ap (λ x. record { first = b.first; units = b.units; bytes = x }) bytes)

pub one_extent : (units : ℕ) (taken : List Extent) (bytes : ℕ) (a b : Extent) → IsPlacedIn units taken bytes a → IsPlacedIn units taken bytes b → a ≡ b
one_extent units taken bytes a b pa pb =
    let long : a.bytes ≡ b.bytes = pa.long ∙ sym pb.long in
    let same : a.units ≡ b.units = pa.fitted ∙ ap units_for long ∙ sym pb.fitted in
    same_extent a b (one_first (free_at units taken) a.units a.first b.first pa.first (subst (λ n. IsFirstFit (free_at units taken) n b.first) (sym same) pb.first)) same long

-- an extent of so many bytes, or none fits
placed_or_none : (units : ℕ) (taken : List Extent) (bytes : ℕ) → ((e : Extent) × IsPlacedIn units taken bytes e) ⊎ ((largest : ℕ) × IsFullAt (free_at units taken) (units_for bytes) largest)
placed_or_none units taken bytes = elim (fits_or_full (free_at units taken) units (free_below units taken) (units_for bytes)) [
  | inl found ↦ inl (record { first = found.0; units = units_for bytes; bytes = bytes }, record { long = refl; fitted = refl; first = found.1 })
  | inr full ↦ inr full
]

pub placed_or_full : (units : ℕ) (taken : List Extent) (lengths : List ℕ) → ((extents : List Extent) × PlacedAs units taken lengths extents) ⊎ ((need : ℕ) × (largest : ℕ) × FullAs units taken lengths need largest)
placed_or_full units taken [] = inl ([], tt)
placed_or_full units taken (bytes ∷ lengths) = elim (placed_or_none units taken bytes) [
  | inr full ↦ inr (units_for bytes, full.0, inl (refl, full.1))
  | inl here ↦ elim (placed_or_full units (here.0 ∷ taken) lengths) [
    | inl more ↦ inl (here.0 ∷ more.0, (here.1, more.1))
    | inr full ↦ inr (full.0, full.1, inr (here.0, here.1, full.2))
  ]
]

-- an extent and no room for it
no_room : (units : ℕ) (taken : List Extent) (bytes : ℕ) (e : Extent) (need largest : ℕ) → IsPlacedIn units taken bytes e → need ≡ units_for bytes → IsFullAt (free_at units taken) need largest → ⊥
no_room units taken bytes e need largest placed is full =
    let same : e.units ≡ need = placed.fitted ∙ ap units_for placed.long ∙ sym is in
    fits_not_full (free_at units taken) need e.first largest (subst (λ n. IsFirstFit (free_at units taken) n e.first) same placed.first) full

pub placed_not_full : (units : ℕ) (taken : List Extent) (lengths : List ℕ) (extents : List Extent) (need largest : ℕ) → PlacedAs units taken lengths extents → FullAs units taken lengths need largest → ⊥
placed_not_full units taken [] extents need largest p f = absurd f
placed_not_full units taken (bytes ∷ lengths) [] need largest p f = absurd p
placed_not_full units taken (bytes ∷ lengths) (e ∷ extents) need largest p f = elim f [
  | inl now ↦ no_room units taken bytes e need largest p.0 now.0 now.1
  | inr later ↦ (let same : e ≡ later.0 = one_extent units taken bytes e later.0 p.0 later.1 in
      placed_not_full units (later.0 ∷ taken) lengths extents need largest (subst (λ x. PlacedAs units (x ∷ taken) lengths extents) same p.1) later.2)
]

pub one_placing : (units : ℕ) (taken : List Extent) (lengths : List ℕ) (extents others : List Extent) → PlacedAs units taken lengths extents → PlacedAs units taken lengths others → extents ≡ others
one_placing units taken [] [] [] p q = refl
one_placing units taken [] [] (d ∷ others) p q = absurd q
one_placing units taken [] (e ∷ extents) others p q = absurd p
one_placing units taken (bytes ∷ lengths) [] others p q = absurd p
one_placing units taken (bytes ∷ lengths) (e ∷ extents) [] p q = absurd q
one_placing units taken (bytes ∷ lengths) (e ∷ extents) (d ∷ others) p q =
    let same : e ≡ d = one_extent units taken bytes e d p.0 q.0 in
    ap (λ x. x ∷ extents) same ∙ ap (λ xs. d ∷ xs) (one_placing units (d ∷ taken) lengths extents others (subst (λ x. PlacedAs units (x ∷ taken) lengths extents) same p.1) q.1)

pub one_full : (units : ℕ) (taken : List Extent) (lengths : List ℕ) (need largest need' largest' : ℕ) → FullAs units taken lengths need largest → FullAs units taken lengths need' largest' → (need ≡ need') × (largest ≡ largest')
one_full units taken [] need largest need' largest' f g = absurd f
one_full units taken (bytes ∷ lengths) need largest need' largest' f g = elim f [
  | inl now ↦ elim g [
    | inl now' ↦ (let same : need ≡ need' = now.0 ∙ sym now'.0 in
        (same, one_longest (free_at units taken) need largest largest' now.1 (subst (λ n. IsFullAt (free_at units taken) n largest') (sym same) now'.1)))
    | inr later' ↦ absurd (no_room units taken bytes later'.0 need largest later'.1 now.0 now.1)
  ]
  | inr later ↦ elim g [
    | inl now' ↦ absurd (no_room units taken bytes later.0 need' largest' later.1 now'.0 now'.1)
    | inr later' ↦ (let same : later.0 ≡ later'.0 = one_extent units taken bytes later.0 later'.0 later.1 later'.1 in
        one_full units (later'.0 ∷ taken) lengths need largest need' largest' (subst (λ x. FullAs units (x ∷ taken) lengths need largest) same later.2) later'.2)
  ]
]

pub full_is_shorter : (units : ℕ) (taken : List Extent) (lengths : List ℕ) (need largest : ℕ) → FullAs units taken lengths need largest → largest < need
full_is_shorter units taken [] need largest f = absurd f
full_is_shorter units taken (bytes ∷ lengths) need largest f = elim f [
  | inl now ↦ now.1.shorter
  | inr later ↦ full_is_shorter units (later.0 ∷ taken) lengths need largest later.2
]
