-- What is written for a plan lies beside all that the body in force claims; so carrying it out is a command for those who read the bytes beside it.
use Rattle.std.proofs.Common.{◌≡◌, ◌⊎◌, inl, inr, ⊎_elim, ℕ, eqb, ◌+◌, ◌<◌, ◌≤◌, ◌||◌, ◌++◌, ◌∷◌, [], Bool, true, false, List, length, refl, sym, ◌∙◌, ap, arith, Option}
use Rattle.std.specs.List.{AllByRecursion, flat_map}
use Rattle.std.specs.Prelude.{if◌then◌else◌}
use Rattle.std.proofs.lemmas.Bool.{cases_Bool, eqb-true, true≢false}
use Rattle.pk_cache.specs.declared.cache.BlockCache.{BlockCache}
use Rattle.pk_disk.specs.declared.disk.Disk.{Ghosts}
use Rattle.pk_disk.specs.declared.units.Extent.{Extent}
use Rattle.pk_disk.specs.Disk.{IsImage, in_range}
use Rattle.pk_disk.specs.Units.{extent_bytes, start_of}
use Rattle.pk_disk.proofs.Ranges.{or_both, outside_range, range_cases}
use Rattle.pk_manifest.specs.declared.half.Half.{Half}
use Rattle.pk_manifest.specs.declared.half.Half.TheVariants.{A, B}
use Rattle.pk_manifest.specs.Bodies.{body_place, generation_of, other}
use Rattle.pk_manifest.specs.Current.{IsTabled, units_of_disk}
use Rattle.pk_manifest.specs.Evolves.{Evolves, body_in, covers, in_force, is_claimed, is_in, stamp, table_in}
use Rattle.pk_manifest.specs.Fields.{body_at, table_at}
use Rattle.pk_manifest.specs.Firm.{IsFar, half_places}
use Rattle.pk_manifest.specs.Sound.{extents_of, named}
use Rattle.pk_manifest.specs.Spelling.{Body, spelling, table_of, view}
use Rattle.pk_manifest.proofs.Fields.{body_of_spelling, generation_of_spelling, table_of_spelling}
use Rattle.pk_manifest.proofs.Moves.{forced_is}
use Rattle.pk_replace.specs.Claims.{Claim, Each, IsThere, IsUntouched, Stands}
use Rattle.pk_replace.specs.Course.{touched_by}
use Rattle.pk_replace.specs.Evolving.{HasWholeStamp, IsBeside}
use Rattle.pk_replace.specs.Held.{Has}
use Rattle.pk_replace.proofs.ClaimLemmas.{each_weaker}
use Rattle.pk_state.specs.Beside.{IsCommand}
use Rattle.pk_state.specs.Kept.{table_claims}
use Rattle.pk_state.proofs.CallerLemmas.{images_left}
use Rattle.pk_state.proofs.HoldsLemmas.{table_there}
use Rattle.pk_layout.specs.declared.planning.Plan.{Plan}
use Rattle.pk_layout.specs.Plan.{GoesOn, IsPlan, PromisesTable}
use Rattle.pk_store.specs.Beside.{HaveWholeStamps}
use Rattle.pk_store.specs.View.{IsCached, IsReady, VolumeView}
use Rattle.pk_store.proofs.CachedLemmas.{Fits, body_fits, long_there, named_untouched, standing, table_untouched}
use Rattle.pk_store.proofs.CarryLemmas.{SaysImages, held_table, next_table}

-- ---- what a body claims

-- one of two
one_of : (a b : Bool) → (a || b) ≡ true → (a ≡ true) ⊎ (b ≡ true)
one_of true b is = inl refl
one_of false b is = inr is

inside : (at n q : ℕ) → in_range at n q ≡ true → (at ≤ q) × (q < at + n)
inside at n q is = elim (range_cases at n q) [
  | inl within ↦ (within.1, within.2)
  | inr beside ↦ absurd (true≢false (sym is ∙ beside.0))
]

-- what stands in these extents is untouched, so each position of theirs is
covered_untouched : (bytes : List ℕ) (touched : ℕ → Bool) (xs : List Extent) → AllByRecursion (Fits (length bytes)) xs → Each (IsUntouched touched) (standing bytes xs) → (q : ℕ) → covers xs q ≡ true → touched q ≡ false
covered_untouched bytes touched [] fits out q is = absurd (true≢false (sym is))
covered_untouched bytes touched (x ∷ xs) fits out q is = elim (one_of (is_in q x) (covers xs q) is) [
  | inl here ↦ (let within = inside (start_of x) x.bytes q here in out.0 q within.0 (omega (arith, within.1, long_there bytes x fits.0.1)))
  | inr later ↦ covered_untouched bytes touched xs fits.1 out.1 q later
]

-- a table that there is is named
left_true : (a b : Bool) → a ≡ true → (a || b) ≡ true
left_true a b is = rw is refl

table_covered : (b : Body) (q : ℕ) → is_in q b.table ≡ true → covers (named b) q ≡ true
table_covered b q is = by (eqb b.table.bytes 0) refl
  where
    by : (none : Bool) → eqb b.table.bytes 0 ≡ none → covers ((if none then [] else b.table ∷ []) ++ flat_map extents_of b.entries) q ≡ true
    by true none =
        let empty : b.table.bytes ≡ 0 = eqb-true _ _ none in
        let within = inside (start_of b.table) b.table.bytes q is in
        absurd (omega (arith, within.0, within.1, empty))
    by false some = left_true (is_in q b.table) (covers (flat_map extents_of b.entries) q) is

-- the body of the other half lies apart from the spare half and from what is far
body_untouched : (spare : Half) (touched : ℕ → Bool) → IsFar touched → (q : ℕ) → in_range (body_place (other spare)) 8192 q ≡ true → touched_by spare touched q ≡ false
body_untouched A touched far q is =
    let within = inside 9216 8192 q is in
    or_both (half_places A q) (touched q)
    (or_both (in_range 0 1 q) (in_range 1024 8192 q) (outside_range 0 1 q (inr (omega (arith, within.0)))) (outside_range 1024 8192 q (inr (omega (arith, within.0)))))
    (far q (omega (arith, within.1)))
body_untouched B touched far q is =
    let within = inside 1024 8192 q is in
    or_both (half_places B q) (touched q)
    (or_both (in_range 512 1 q) (in_range 9216 8192 q) (outside_range 512 1 q (inr (omega (arith, within.0)))) (outside_range 9216 8192 q (inl (omega (arith, within.1)))))
    (far q (omega (arith, within.1)))

-- the generation in force is that of the body in force
forced_as : (image body : List ℕ) (claims : List Claim) → Has image body claims → in_force image ≡ generation_of body
forced_as image body claims has = (forced_is image has.half has.current.in_force).is ∙ ap generation_of has.current.has_body

-- ---- a plan for a volume
module _ {D : Type 0} (d : Ghosts D) (v : VolumeView D) (p : Plan) (cache : Option BlockCache) (ready : IsReady d v) (is : IsCached d v cache) (clear : v.reopen ≡ false) (plan : IsPlan (length (d.content v.disk)) v.body v.opened p)
    (touched : ℕ → Bool) (promised : Claim → Type 0) (goes : GoesOn touched v.body v.opened p) (far : IsFar touched) where
  abbrev old : List ℕ
  old = d.content v.disk

  abbrev half : Half
  half = other v.spare

  -- the half in force says the body that is kept
  place : d.honest → table_in old half ≡ v.body.table
  place h = ap table_at (ready.in_force h clear) ∙ table_of_spelling (units_of_disk old) v.body ready.sound

  tabled : d.honest → IsTabled old v.body
  tabled h = table_there old (units_of_disk old) v.body ready.sound (each_weaker (Stands old (d.is_open v.disk)) (IsThere old) (λ c stands. stands.there) (table_claims v.body) (ready.tabled h clear))

  said : d.honest → body_in old half ≡ v.body
  said h =
      let table : extent_bytes old (table_in old half) ≡ table_of v.body = ap (extent_bytes old) (place h) ∙ tabled h in
      (λ i. body_at (ready.in_force h clear i) (table i)) ∙ body_of_spelling (units_of_disk old) v.body ready.sound

  -- NOTHING THAT IT CLAIMS IS TOUCHED
  claimed_untouched : d.honest → (q : ℕ) → is_claimed old half q ≡ true → touched_by v.spare touched q ≡ false
  unfolding is_claimed
  claimed_untouched h q claimed = elim (one_of (in_range (body_place half) 8192 q) (covers (table_in old half ∷ named (body_in old half)) q) claimed) [
    | inl own ↦ body_untouched v.spare touched far q own
    | inr beside ↦ covered_untouched old (touched_by v.spare touched) (named v.body) (body_fits old v.body ready.sound) (named_untouched d v p cache ready is clear touched promised goes) q
        (elim (one_of (is_in q (table_in old half)) (covers (named (body_in old half)) q) beside) [
          | inl table ↦ table_covered v.body q (ap (is_in q) (sym (place h)) ∙ table)
          | inr name ↦ ap (λ (b : Body). covers (named b) q) (sym (said h)) ∙ name
        ])
  ]

  -- and the generation is the next one
  was : d.honest → stamp old half ≡ v.body.generation
  was h = let left : v.body.generation < 18446744073709551615 = plan.generation in ap generation_of (ready.in_force h clear) ∙ generation_of_spelling v.body (omega (arith, left))

  next : d.honest → generation_of p.body.items ≡ v.body.generation + 1
  next h =
      let left : v.body.generation < 18446744073709551615 = plan.generation in
      let later : (view p.manifest).generation ≡ v.body.generation + 1 = plan.later in
      ap generation_of plan.body_is ∙ generation_of_spelling (view p.manifest) (omega (arith, left, later)) ∙ later

  beside : d.honest → IsBeside old v.spare touched p.body.items
  beside h = record {
    generation = next h ∙ ap (λ (n : ℕ). n + 1) (sym (was h));
    apart = λ q touches. elim (cases_Bool (is_claimed old half q)) [
      | inl claimed ↦ absurd (true≢false (sym touches ∙ claimed_untouched h q claimed))
      | inr free ↦ free
    ];
  }

  forced : d.honest → in_force old ≡ v.body.generation
  forced h = (forced_is old half (ready.firm h clear).in_force).is ∙ was h

  -- WHAT THE REPLACEMENT SAYS, on the disk that it leaves
  module _ (promises : PromisesTable promised p) (counts_now : d.honest → (x : D) (t : ℕ) (image : List ℕ) → t ≤ d.moment x → IsImage (d.content x) (d.is_open x) image → d.images_since x t image)
      (only_now : d.honest → (x : D) (image : List ℕ) → d.images_since x (d.moment x) image → IsImage (d.content x) (d.is_open x) image)
      (disk : D) (same : length (d.content disk) ≡ length old) (says : SaysImages d v p ready clear plan touched promised disk same) where
    abbrev new : List ℕ
    new = d.content disk

    abbrev IsEither : List ℕ → Type 0
    IsEither image = (length image ≡ length old) × (Has image (spelling v.body) (table_claims v.body) ⊎ Has image p.body.items (table_claims (view p.manifest)))

    -- the old body is in force or the new one
    most : d.honest → in_force new ≤ in_force old + 1
    most h =
        let held = held_table d v p ready clear plan h in
        let only = says h (spelling v.body) (table_claims v.body) (table_claims (view p.manifest)) held (next_table d v p ready clear plan touched promised disk same (table_untouched d v p cache ready is clear touched promised goes) promises) in
        ⊎_elim
        (λ has. kept h has)
        (λ (either : IsEither new). ⊎_elim (λ has. kept h has) (λ has. risen h has) either.1)
        (images_left d v.spare (spelling v.body) (table_claims v.body) v.disk disk held (counts_now h) (only_now h) IsEither only new (record { size = refl; same = λ q shut. refl }))
      where
        kept : d.honest → Has new (spelling v.body) (table_claims v.body) → in_force new ≤ in_force old + 1
        kept h has =
            let left : v.body.generation < 18446744073709551615 = plan.generation in
            let now : in_force new ≡ v.body.generation = forced_as new (spelling v.body) (table_claims v.body) has ∙ generation_of_spelling v.body (omega (arith, left)) in
            omega (arith, now, forced h)

        risen : d.honest → Has new p.body.items (table_claims (view p.manifest)) → in_force new ≤ in_force old + 1
        risen h has =
            let now : in_force new ≡ v.body.generation + 1 = forced_as new p.body.items (table_claims (view p.manifest)) has ∙ next h in
            omega (arith, now, forced h)

    -- it is a command
    pub command : (d.honest → IsBeside old v.spare touched p.body.items → Evolves old new) → d.honest → IsCommand old new
    command evolves h = record { evolves = evolves h (beside h); most = most h }

    -- where a write or a sync failed, if no generation was written in part
    pub command_failed : (d.honest → IsBeside old v.spare touched p.body.items → HasWholeStamp old new v.spare p.body.items → Evolves old new) → d.honest → HaveWholeStamps old new → IsCommand old new
    command_failed evolves h whole = record { evolves = evolves h (beside h) (by (whole v.spare)); most = most h }
      where
        by : (stamp new v.spare ≡ stamp old v.spare) ⊎ (stamp new v.spare ≡ in_force old + 1) → HasWholeStamp old new v.spare p.body.items
        by (inl stays) = inl stays
        by (inr rises) = inr (rises ∙ ap (λ (n : ℕ). n + 1) (forced h) ∙ sym (next h))
