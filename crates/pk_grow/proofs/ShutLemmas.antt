-- The spare gate is shut while the file gets longer: whatever a crash leaves of that holds the store.
use Rattle.std.proofs.Common.{◌≡◌, ℕ, ◌+◌, ◌*◌, ◌≤◌, ◌++◌, ◌==◌, Bool, true, false, List, [], length, take, replicate, refl, sym, ◌∙◌, ap, subst, arith}
use Rattle.std.proofs.lemmas.Bool.Decides.{nat_tests}
use Rattle.std.proofs.lemmas.List.{length-take, take-append-le, take-take, take_all}
use Rattle.std.proofs.Math.Seq.{take-length}
use Rattle.pk_disk.specs.Units.{units_in}
use Rattle.pk_disk.specs.Disk.{IsImage, also, in_range, nowhere, written}
use Rattle.pk_disk.proofs.Images.{closed_image}
use Rattle.pk_disk.proofs.Ranges.{image_of_written, length-written, or_left}
use Rattle.pk_filedisk.specs.Raw.{IsExtended}
use Rattle.pk_filedisk.specs.Resized.{resized, resized_is}
use Rattle.pk_manifest.specs.declared.half.Half.{Half}
use Rattle.pk_manifest.specs.declared.half.Half.TheVariants.{A, B}
use Rattle.pk_manifest.specs.Bodies.{IsCurrent, bodies_end, body_of, body_place, gate_place, has_open_gate, other}
use Rattle.pk_manifest.specs.Current.{HasBody, HasBodyOf, units_of_disk}
use Rattle.pk_manifest.specs.Firm.{IsFirm, half_places}
use Rattle.pk_manifest.specs.Sound.{IsBody}
use Rattle.pk_manifest.specs.Spelling.{Body, spelling}
use Rattle.pk_manifest.proofs.Firm.{closing}
use Rattle.pk_manifest.proofs.Sound.{says_sound}
use Rattle.pk_model.specs.Collection.{Collection}
use Rattle.pk_replace.specs.Claims.{Each, IsThere, places}
use Rattle.pk_replace.specs.Course.{IsBefore, touched_by}
use Rattle.pk_replace.proofs.ClaimLemmas.{all_in, steady}
use Rattle.pk_replace.proofs.CourseLemmas.{first_stage}
use Rattle.pk_replace.proofs.HeldLemmas.{before_has}
use Rattle.pk_state.specs.Holds.{Holds}
use Rattle.pk_state.specs.Kept.{table_claims}
use Rattle.pk_state.proofs.HoldsLemmas.{table_kept, table_there, units_room}
use Rattle.pk_grow.specs.Growth.{HoldsStore, session_units, store_bytes}
use Rattle.pk_grow.specs.Shutting.{shut_places, shutting}
use Rattle.pk_grow.proofs.GrowthLemmas.{grow_held, grow_next, old_holds, spare_firm, table_inside_by, untouched_by_half}
use Rattle.pk_grow.proofs.StoreLemmas.{first_has, first_same, has_first, has_longer, has_room, holds_longer, most, opened_holds, units_of_sound}

-- ---- an image of a disk whose open spare gate is shut

module _ (bytes : List ℕ) (u : ℕ) (b : Body) (s : Half) (least : bodies_end ≤ 512 * u) (room : u ≤ units_of_disk bytes) (has : HasBody (store_bytes u bytes) (other s) b) (sound : IsBody u b) where
  same_units : u ≤ u
  same_units = omega arith

  firm : IsFirm bytes nowhere s
  firm = spare_firm bytes u u b s least same_units room has nowhere refl

  module _ (image : List ℕ) (is : IsImage bytes (in_range (gate_place s) 1) image) (was : has_open_gate bytes s ≡ true) where
    current : IsCurrent image (other s) (body_of bytes (other s))
    current = closing bytes nowhere s firm image is was

    in_half : IsImage bytes (also nowhere (half_places s)) image
    in_half = record { size = is.size; same = λ p out. is.same p (or_left (in_range (gate_place s) 1 p) (in_range (body_place s) 8192 p) out) }

    before : IsBefore bytes nowhere s (places []) image
    before = first_stage bytes nowhere s (places []) (λ p lt. refl) image current in_half

    -- it holds what the disk holds
    gate_holds : (c : Collection) → Holds (store_bytes u bytes) c → Holds (store_bytes u image) c
    gate_holds c holds = old_holds bytes u u b s least same_units room has c holds sound image is.size
        (before_has bytes nowhere s (places []) (spelling b) _ (grow_held bytes u u b s least same_units room has c holds sound nowhere refl)
        (grow_next bytes u u b s least same_units room has c holds sound (λ d. IsThere image d)).untouched image before)

    -- and has its body
    gate_has : HasBody (store_bytes u image) (other s) b
    gate_has =
        let of_bytes = first_has bytes u (other s) b least room has in
        let table : Each (IsThere bytes) (table_claims b) = table_kept bytes u b sound of_bytes.tabled in
        let inside = table_inside_by (b.table.bytes == 0) u (512 * u) b refl (omega arith) (says_sound u b sound.sound).table in
        has_first image u (other s) b least (subst (λ (m : ℕ). u ≤ m) (ap units_in (sym is.size)) room) (record {
          in_force = current.in_force;
          spelled = current.has_body ∙ of_bytes.spelled;
          tabled = table_there image u b sound (all_in bytes nowhere (touched_by s (places [])) image before.is_image (table_claims b) (untouched_by_half s (512 * u) (table_claims b) inside) (steady bytes nowhere refl (table_claims b) table));
          sound = sound;
        })

  -- the same where the gate is shut, and nothing is written
  none_in : (at p : ℕ) → in_range at 0 p ≡ false
  none_in at p = grind (arith, nat_tests)

  unwritten : (image : List ℕ) → IsImage bytes (in_range (gate_place s) 0) image → image ≡ bytes
  unwritten image is = closed_image bytes image (record { size = is.size; same = λ p shut. is.same p (none_in (gate_place s) p) })

  either_holds : (t : Bool) (image : List ℕ) → has_open_gate bytes s ≡ t → IsImage bytes (in_range (gate_place s) (length (shutting t))) image → (c : Collection) → Holds (store_bytes u bytes) c → Holds (store_bytes u image) c
  either_holds true image was is c holds = gate_holds image is was c holds
  either_holds false image was is c holds = subst (λ (l : List ℕ). Holds (store_bytes u l) c) (sym (unwritten image is)) holds

  either_has : (t : Bool) (image : List ℕ) → has_open_gate bytes s ≡ t → IsImage bytes (in_range (gate_place s) (length (shutting t))) image → HasBody (store_bytes u image) (other s) b
  either_has true image was is = gate_has image is was
  either_has false image was is = subst (λ (l : List ℕ). HasBody (store_bytes u l) (other s) b) (sym (unwritten image is)) has

-- ---- a disk that begins with such an image

module _ (bytes image : List ℕ) (b : Body) (half s : Half) (is : s ≡ other half) (least : 64 ≤ b.units) (has : HasBodyOf (session_units bytes) bytes half b) (longer : IsExtended bytes (shut_places bytes s) image) where
  itself : take (length bytes) bytes ≡ bytes
  itself = take-length bytes

  few : b.units ≤ units_of_disk bytes
  few = has_room bytes bytes itself b half least has

  fits : 512 * b.units ≤ length bytes
  fits = omega (arith, few, units_room (length bytes))

  sound_as : IsBody b.units b
  sound_as = subst (λ (m : ℕ). IsBody m b) (sym (units_of_sound (session_units bytes) b has.sound)) has.sound

  first_units : store_bytes b.units (take (length bytes) image) ≡ store_bytes b.units image
  first_units = first_same (take (length bytes) image) image (ap (λ (m : ℕ). take m image) longer.size) (512 * b.units) (omega (arith, fits, longer.size))

  pub shut_has : HasBody (store_bytes b.units image) (other s) b
  shut_has = subst (λ (l : List ℕ). HasBody l (other s) b) first_units
      (either_has bytes b.units b s (omega (arith, least)) few (has_longer bytes bytes itself b half least has s is) sound_as (has_open_gate bytes s) (take (length bytes) image) refl longer)

  pub shut_holds : (c : Collection) → HoldsStore bytes c → Holds (store_bytes b.units image) c
  shut_holds c holds = subst (λ (l : List ℕ). Holds l c) first_units
      (either_holds bytes b.units b s (omega (arith, least)) few (has_longer bytes bytes itself b half least has s is) sound_as (has_open_gate bytes s) (take (length bytes) image) refl longer c
      (holds_longer bytes bytes itself b half least has c holds))

  pub shut_stores : (c : Collection) → HoldsStore bytes c → HoldsStore image c
  shut_stores c holds = opened_holds image b.units c least (omega (arith, few, most (length bytes))) (omega (arith, fits, longer.size, length-take (length bytes) image)) (shut_holds c holds)

-- ---- what is there of a file that was made longer

-- what shuts a gate lies before the extents
pub shuts_within : (half : Half) (t : Bool) → gate_place half + length (shutting t) ≤ bodies_end
shuts_within A true = omega arith
shuts_within A false = omega arith
shuts_within B true = omega arith
shuts_within B false = omega arith

-- bytes begin with themselves
pub begins_itself : (bytes : List ℕ) (o : ℕ → Bool) → IsExtended bytes o bytes
begins_itself bytes o = subst (λ (l : List ℕ). IsImage bytes o l) (sym (take-length bytes)) (record { size = refl; same = λ p shut. refl })

-- with what was written in them, whatever follows
pub begins_written : (bytes now new : List ℕ) (at len : ℕ) → at + length new ≤ length bytes → length bytes ≤ len → now ≡ resized len (written bytes at new) → IsExtended bytes (in_range at (length new)) now
begins_written bytes now new at len fits le is =
    let put : List ℕ = written bytes at new in
    let size : length put ≡ length bytes = length-written bytes at new fits in
    let first : take (length bytes) now ≡ put =
    ap (take (length bytes)) (is ∙ resized_is len put) ∙ take-take (length bytes) len (put ++ replicate len 0) le
    ∙ take-append-le (length bytes) put (replicate len 0) (omega (arith, size)) ∙ take_all (length bytes) put (omega (arith, size)) in
    subst (λ (l : List ℕ). IsImage bytes (in_range at (length new)) l) (sym first) (image_of_written bytes at new fits nowhere)
