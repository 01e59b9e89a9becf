-- What a refusal of an opening says, by why the snapshot was refused or the store over it.
use Rattle.std.proofs.Common.{◌≡◌, ◌⊎◌, ◌≤◌, inl, inr, ⊎_elim, ℕ, ◌∙◌, sym, Bool, true, false, List, refl, arith}
use Rattle.std.specs.Prelude.{cond, None, Some}
use Rattle.std.proofs.Math.Logic.{∥∥₁_map}
use Rattle.pk_disk.specs.declared.units.Extent.{Extent}
use Rattle.pk_manifest.specs.declared.half.Half.{Half}
use Rattle.pk_manifest.specs.declared.half.Half.TheVariants.{A, B}
use Rattle.pk_manifest.specs.Evolves.{Evolves, in_force}
use Rattle.pk_manifest.proofs.Evolving.{evolves_here}
use Rattle.pk_reader.specs.Faults.{showing_fault}
use Rattle.pk_reader.specs.Refused.{IsGone, RefusedOpening, ShowsUnsound}
use Rattle.pk_reader.proofs.CauseLemmas.{fewer}
use Rattle.pk_snapshot.specs.Changed.{SawChange}
use Rattle.pk_snapshot.specs.Found.{HasNoBody, RefusedAs}
use Rattle.pk_snapshot.specs.Latest.{IsSnapshot}
use Rattle.pk_snapshot.specs.Shared.{SawOther}
use Rattle.pk_snapshot.specs.Shown.{ShowsBody, shown_bytes}
use Rattle.pk_snapshot.specs.declared.fault.SnapshotFault.{SnapshotFault}
use Rattle.pk_snapshot.specs.declared.fault.SnapshotFault.TheVariants as shown
use Rattle.pk_snapshot.proofs.LatestLemmas.{shows_of}
use Rattle.pk_snapshot.proofs.SeenLemmas.{confirms_wider, shut_wider}
use Rattle.pk_store.specs.Opening.{RefusesOpening}
use Rattle.pk_store.specs.declared.refused.OpenFault.{OpenFault}
use Rattle.pk_store.specs.declared.refused.OpenFault.TheVariants as opened

-- as the snapshot was
pub shown_refused : (old new marked : List ℕ) (why : SnapshotFault) → RefusedAs old new marked why → (why ≡ shown.Changed → SawChange old new) → RefusedOpening old new marked why
shown_refused old new marked shown.TooSmall is changed = is
shown_refused old new marked shown.NotAStore is changed = is
shown_refused old new marked shown.Changed is changed = inl (changed refl)
shown_refused old new marked shown.Damaged is changed = inl is
shown_refused old new marked shown.Memory is changed = tt
shown_refused old new marked shown.Disk is changed = tt

-- as the store was over what is shown: that has a body in force, and the units that this says
module _ (old new marked : List ℕ) (half : Half) (g len : ℕ) (extents : List Extent) (is : IsSnapshot marked half g len extents) (fresh : in_force old ≤ g) where
  abbrev content : List ℕ
  content = shown_bytes len extents marked

  shows : ShowsBody marked content half g
  shows = shows_of marked half g len extents is

  store_refused : (why : OpenFault) → RefusesOpening content why → RefusedOpening old new marked (showing_fault why)
  store_refused opened.TooSmall small = let long = shows.size in let least = shows.found.least in absurd (grind (arith, long, least, small))
  store_refused opened.NotAStore none = let some = shows.has.in_force in absurd (let no : None ≡ Some half = sym none ∙ some in cc)
  store_refused opened.Damaged unsound = inr (record { half = half; generation = g; fresh = fresh; content = content; shows = shows; unsound = unsound })
  store_refused opened.Disk refused = tt
  store_refused opened.Memory refused = tt

  gone : SawOther marked new half g → IsGone old marked new
  gone other = record { half = half; generation = g; fresh = fresh; begun = record { gate = is.found.gate; stamp_is = is.found.stamp_is }; other = other }

  -- or as outdated
  pub open_refused : (outdated : Bool) → (outdated ≡ true → ∥ SawOther marked new half g ∥₁) → (why : OpenFault) → RefusesOpening content why → RefusedOpening old new marked (cond outdated shown.Changed (showing_fault why))
  open_refused true seen why refused = inr (∥∥₁_map (seen refl) gone)
  open_refused false seen why refused = store_refused why refused

-- of what was in force earlier
pub unsound_earlier : (first asked marked : List ℕ) → in_force first ≤ in_force asked → HasNoBody asked marked ⊎ ShowsUnsound asked marked → HasNoBody first marked ⊎ ShowsUnsound first marked
unsound_earlier first asked marked low (inl is) = inl (record { half = is.half; generation = is.generation; fresh = omega (arith, low, is.fresh); begun = is.begun; none = is.none })
unsound_earlier first asked marked low (inr is) = inr (record { half = is.half; generation = is.generation; fresh = omega (arith, low, is.fresh); content = is.content; shows = is.shows; unsound = is.unsound })

-- and of what was there earlier
module _ (first asked new marked : List ℕ) (since : Evolves first asked) where
  change_earlier : SawChange asked new → SawChange first new
  change_earlier is = record {
    half = is.half;
    generation = is.generation;
    moment = is.moment;
    confirmed = confirms_wider first asked is.moment is.moment is.half is.generation since is.confirmed (evolves_here is.moment);
    other = is.other;
  }

  gone_earlier : IsGone asked marked new → IsGone first marked new
  gone_earlier is = record {
    half = is.half;
    generation = is.generation;
    fresh = omega (arith, since.rises, is.fresh);
    begun = is.begun;
    other = is.other;
  }

  pub refused_earlier : (why : SnapshotFault) → RefusedOpening asked new marked why → RefusedOpening first new marked why
  refused_earlier shown.TooSmall is = fewer first asked since.size is
  refused_earlier shown.NotAStore is = (
    shut_wider first asked new new A since is.0 (evolves_here new),
    shut_wider first asked new new B since is.1 (evolves_here new),
  )
  refused_earlier shown.Changed is = ⊎_elim (λ changed. inl (change_earlier changed)) (λ gone. inr (∥∥₁_map gone gone_earlier)) is
  refused_earlier shown.Damaged is = unsound_earlier first asked marked since.rises is
  refused_earlier shown.Memory is = tt
  refused_earlier shown.Disk is = tt
