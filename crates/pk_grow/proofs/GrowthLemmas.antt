-- A store as it grows: each image has the body of before with its claims, or that of the growth with
-- the same, and so holds the same collection.
use Rattle.std.proofs.Common.{◌≡◌, Result, Ok, Err, ◌⊎◌, inl, inr, ⊎_elim, ℕ, ◌+◌, ◌*◌, ◌-◌, ◌<◌, ◌≤◌, ◌^◌, ◌&&◌, ◌==◌, Bool, true, false, leb, ltb, List, [], ◌∷◌, ◌++◌, length, take, Option, Some, None, refl, sym, ◌∙◌, ap, subst, arith}
use Rattle.std.specs.List.{list_all}
use Rattle.std.specs.Prelude.{IsErrAnd}
use Rattle.std.proofs.lemmas.Bool.{and_parts}
use Rattle.std.proofs.lemmas.List.{length-take-le, take_all}
use Rattle.std.proofs.lemmas.List.Elements.{All-head, All-tail}
use Rattle.pk_disk.specs.Disk.{IsImage, nowhere}
use Rattle.pk_disk.specs.Since.{IsOnlyRead, OnlyNew}
use Rattle.pk_disk.specs.Units.{units_in}
use Rattle.pk_disk.specs.declared.disk.Disk.{Ghosts}
use Rattle.pk_disk.specs.declared.units.Extent.{Extent}
use Rattle.pk_disk.proofs.Images.{closed_image}
use Rattle.pk_disk.proofs.Moments.{images_after, weaker}
use Rattle.pk_disk.proofs.Ranges.{or_both}
use Rattle.pk_disk.proofs.Reading.{read_then_only}
use Rattle.pk_manifest.specs.declared.fault.ManifestFault.{ManifestFault}
use Rattle.pk_manifest.specs.declared.fault.ManifestFault.TheVariants.{NotAStore, Damaged, Disk, UsedUp, Memory}
use Rattle.pk_manifest.specs.declared.half.Half.{Half}
use Rattle.pk_manifest.specs.declared.manifest.Part.{Part as Entry}
use Rattle.pk_manifest.specs.Bodies.{bodies_end, body_of, generation_of, other}
use Rattle.pk_manifest.specs.Current.{HasBody, HasBodyOf, units_of_disk}
use Rattle.pk_manifest.specs.Firm.{IsFirm, half_places}
use Rattle.pk_manifest.specs.Sound.{IsBody, is_dead, is_extent, is_part, is_table}
use Rattle.pk_manifest.specs.Spelling.{Body, table_size, spelling as body_spelling}
use Rattle.pk_manifest.proofs.Fields.{extent_within, generation_of_spelling, length_table, one_body_in_force, table_extent, table_long}
use Rattle.pk_manifest.proofs.Firm.{firm_shut, other_other}
use Rattle.pk_manifest.proofs.Sound.{says_sound}
use Rattle.pk_model.specs.Collection.{Collection, IsCollection}
use Rattle.pk_posting.proofs.SpellingLemmas.{length_spelling}
use Rattle.pk_replace.specs.Claims.{Claim, Each, IsAmong, IsBehind, IsInside, IsThere, IsUntouched, places}
use Rattle.pk_replace.specs.Course.{touched_by}
use Rattle.pk_replace.specs.Held.{Has, IsHeld, IsNext}
use Rattle.pk_replace.proofs.CourseLemmas.{half_untouched}
use Rattle.pk_segment.proofs.SegmentLemmas.{length_segment}
use Rattle.pk_state.specs.Committed.{Committed, Stored, collection_of, whole_of}
use Rattle.pk_state.specs.Holds.{Holds, SpellsEntries}
use Rattle.pk_state.specs.Kept.{AreEntries, EndsInside, IsList, LieInside, ListEndsInside, all_claims, claims_in, claims_of, list_claims, table_claims, table_claims_by}
use Rattle.pk_state.proofs.CallerLemmas.{held_closed, held_now}
use Rattle.pk_state.proofs.HoldsLemmas.{each_append, each_front, fitted_entry, has_holds, lie_inside, spelled_entries, table_kept, table_there, units_room, within_parts}
use Rattle.pk_grow.specs.Growth.{GrowsAs, HoldsEither, HoldsStore, IsSoundFault, grown, session_units, store_bytes}
use Rattle.pk_grow.specs.declared.fault.GrowFault.TheVariants.{Store}
use Rattle.pk_grow.proofs.StoreLemmas.{current_first, few_units, first_current, first_part, fits_in, has_first, has_longer, holds_longer, most, opened_holds, units_again, units_of_sound}
use Rattle.pk_grow.proofs.WiderLemmas.{grown_sound}

-- ---- what a sound body claims lies behind the bodies, and within its disk

abbrev Inside : ℕ → Entry → Type 0
Inside size e = EndsInside size e.extent × ListEndsInside size e.dead

list_inside : (units size : ℕ) (d : Option Extent) (s : Stored) → is_dead units d ≡ true → ListEndsInside size d → IsList d s → Each (IsInside size) (list_claims d s.dead)
list_inside units size None s h ends is = tt
list_inside units size (Some e) s h ends is =
    let low = (within_parts units e (extent_within units 5 e h)).0 in
    ((omega (arith, low), omega (arith, ends, is.long, length_spelling s.dead)), tt)

claims_inside : (units size next : ℕ) (es : List Entry) (stored : List Stored) → LieInside size es → list_all (is_part units next) es ≡ true → AreEntries es stored → Each (IsInside size) (claims_of es stored)
claims_inside units size next [] stored ends h are = tt
claims_inside units size next (e ∷ es) [] ends h are = tt
claims_inside units size next (e ∷ es) (s ∷ stored) ends h are =
    let parts = and_parts (is_part units next e) (list_all (is_part units next) es) h in
    let here = All-head (Inside size) e es ends in
    let low = (within_parts units e.extent (fitted_entry units next e parts.0).1).0 in
    let dead = (and_parts (leb 1 e.segment && ltb e.segment next && leb 1 e.kind && leb e.kind 2 && is_extent units 1 e.extent) (is_dead units e.dead) parts.0).1 in
    let long = are.0.segment.long in
    each_append (IsInside size) (claims_in e s) (claims_of es stored)
    ((omega (arith, low), omega (arith, here.0, long, length_segment s.documents e.kind)), list_inside units size e.dead s dead here.1 are.0.list)
    (claims_inside units size next es stored (All-tail (Inside size) e es ends) parts.1 are.1)

pub table_inside_by : (t : Bool) (units size : ℕ) (b : Body) → (b.table.bytes == 0) ≡ t → 512 * units ≤ size → is_table units (table_size b) b.table ≡ true → Each (IsInside size) (table_claims_by t b)
table_inside_by true units size b is room h = tt
table_inside_by false units size b is room h =
    let long = table_long units (table_size b) b.table h in
    let some : table_size b ≡ 0 → ⊥ = λ none. (let no : true ≡ false = sym (ap (λ (n : ℕ). n == 0) (long ∙ none)) ∙ is in cc) in
    let at = fits_in units b.table (table_extent units (table_size b) b.table h some) in
    ((omega (arith, at.0), omega (arith, at.1, room, long, length_table b)), tt)

pub untouched_by_half : (h : Half) (size : ℕ) (cs : List Claim) → Each (IsInside size) cs → Each (IsUntouched (touched_by h (places []))) cs
untouched_by_half h size [] inside = tt
untouched_by_half h size (c ∷ cs) inside = (λ p le lt. or_both (half_places h p) false (half_untouched h c inside.0.0 p le lt) refl, untouched_by_half h size cs inside.1)

own_among : (P : Claim → Type 0) (all cs : List Claim) → ((c : Claim) → IsAmong c cs → IsAmong c all) → Each (λ c. IsAmong c all ⊎ P c) cs
own_among P all [] within = tt
own_among P all (c ∷ cs) within = (inl (within c (inl refl)), own_among P all cs (λ d is. within d (inr is)))

-- what is there in the first bytes is there, and the other way round
up : (size : ℕ) (bytes : List ℕ) (cs : List Claim) → Each (IsInside size) cs → Each (IsThere (take size bytes)) cs → Each (IsThere bytes) cs
up size bytes [] inside there = tt
up size bytes (c ∷ cs) inside there = (sym (first_part size c.at (length c.bytes) bytes inside.0.1) ∙ there.0, up size bytes cs inside.1 there.1)

down : (size : ℕ) (bytes : List ℕ) (cs : List Claim) → Each (IsInside size) cs → Each (IsThere bytes) cs → Each (IsThere (take size bytes)) cs
down size bytes [] inside there = tt
down size bytes (c ∷ cs) inside there = (first_part size c.at (length c.bytes) bytes inside.0.1 ∙ there.0, down size bytes cs inside.1 there.1)

-- a growth claims the same table
same_table : (t : Bool) (n : ℕ) (b : Body) → table_claims_by t b ≡ table_claims_by t (grown n b)
same_table true n b = refl
same_table false n b = refl

-- what lies within the first bytes lies within more of them
inside_more : (size more : ℕ) → size ≤ more → (cs : List Claim) → Each (IsInside size) cs → Each (IsInside more) cs
inside_more size more le [] inside = tt
inside_more size more le (c ∷ cs) inside = ((inside.0.0, omega (arith, inside.0.1, le)), inside_more size more le cs inside.1)

-- the first bytes of an image have its body and its claims
first_has_claims : (size : ℕ) (image body : List ℕ) (cs : List Claim) → bodies_end ≤ size → Each (IsInside size) cs → Has image body cs → Has (take size image) body cs
first_has_claims size image body cs room inside h = record {
  half = h.half;
  current = current_first size image room h.half body h.current;
  there = down size image cs inside h.there;
}

-- ---- a growth from u units to n

module _ (bytes : List ℕ) (u n : ℕ) (b : Body) (s : Half) (least : bodies_end ≤ 512 * u) (longer : u ≤ n) (room : n ≤ units_of_disk bytes) (has : HasBody (store_bytes u bytes) (other s) b) where
  fits : 512 * u ≤ length bytes
  fits = omega (arith, longer, room, units_room (length bytes))

  sound_first : (k : ℕ) (x : Body) (image : List ℕ) → k ≤ units_of_disk bytes → length image ≡ length bytes → IsBody k x → IsBody (units_of_disk (store_bytes k image)) x
  sound_first k x image le same is =
      let long = length-take-le (512 * k) image (omega (arith, le, same, units_room (length bytes))) in
      subst (λ (m : ℕ). IsBody m x) (sym (ap units_in long ∙ units_again k (length bytes) le)) is

  pub spare_firm : (o : ℕ → Bool) → o ≡ nowhere → IsFirm bytes o s
  spare_firm o closed = firm_shut bytes o s (first_current (512 * u) bytes least (other s) (body_spelling b) (record { in_force = has.in_force; has_body = has.spelled })).in_force closed

  pub old_generation : b.generation < 2 ^ 64 → generation_of (body_of bytes (other s)) ≡ b.generation
  old_generation lt = ap generation_of (first_current (512 * u) bytes least (other s) (body_spelling b) (record { in_force = has.in_force; has_body = has.spelled })).has_body ∙ generation_of_spelling b lt

  module _ (c : Collection) (holds : Holds (store_bytes u bytes) c) (sound : IsBody u b) where
    same : holds.committed.body ≡ b
    same = (one_body_in_force (store_bytes u bytes) holds.half (other s) holds.committed.body b holds.current has).1

    abbrev pub kept : Committed
    kept = record { body = b; stored = holds.committed.stored }

    spelled : SpellsEntries (store_bytes u bytes) b.entries kept.stored
    spelled = subst (λ (x : Body). SpellsEntries (store_bytes u bytes) x.entries holds.committed.stored) same holds.spelled

    numbers : IsCollection (whole_of kept)
    numbers = subst (λ (x : Body). IsCollection (whole_of (record { body = x; stored = holds.committed.stored }))) same holds.numbers

    stands : collection_of kept ≡ c
    stands = ap (λ (x : Body). collection_of (record { body = x; stored = holds.committed.stored })) (sym same) ∙ holds.stands_for

    entries : AreEntries b.entries kept.stored × Each (IsThere (store_bytes u bytes)) (claims_of b.entries kept.stored)
    entries = spelled_entries (store_bytes u bytes) b.entries kept.stored (lie_inside (store_bytes u bytes) b has.sound) spelled

    inside : Each (IsInside (512 * u)) (all_claims kept)
    inside =
        let says = says_sound u b sound.sound in
        each_append (IsInside (512 * u)) (table_claims b) (claims_of b.entries kept.stored)
        (table_inside_by (b.table.bytes == 0) u (512 * u) b refl (omega arith) says.table)
        (claims_inside u (512 * u) b.next_segment b.entries kept.stored (subst (λ (m : ℕ). LieInside m b.entries) (length-take-le (512 * u) bytes fits) (lie_inside (store_bytes u bytes) b has.sound)) says.parts entries.0)

    there : Each (IsThere bytes) (all_claims kept)
    there = up (512 * u) bytes (all_claims kept) inside
        (each_append (IsThere (store_bytes u bytes)) (table_claims b) (claims_of b.entries kept.stored) (table_kept (store_bytes u bytes) (units_of_disk (store_bytes u bytes)) b has.sound has.tabled) entries.1)

    pub grow_held : (o : ℕ → Bool) → o ≡ nowhere → IsHeld bytes o s (body_spelling b) (all_claims kept)
    grow_held o closed = held_closed bytes o s (body_spelling b) (all_claims kept) closed
        (first_current (512 * u) bytes least (other s) (body_spelling b) (record { in_force = has.in_force; has_body = has.spelled })) there

    pub grow_next : (P : Claim → Type 0) → IsNext s (places []) P (all_claims kept) (all_claims kept)
    grow_next P = record {
      untouched = untouched_by_half s (512 * u) (all_claims kept) inside;
      among = own_among (λ d. P d × IsBehind d) (all_claims kept) (all_claims kept) (λ d is. is);
    }

    -- an image with the old body holds the collection in the old units
    pub old_holds : (image : List ℕ) → length image ≡ length bytes → Has image (body_spelling b) (all_claims kept) → Holds (store_bytes u image) c
    old_holds image long h = has_holds (store_bytes u image) kept c (sound_first u b image (omega (arith, longer, room)) long sound) entries.0
        (first_has_claims (512 * u) image (body_spelling b) (all_claims kept) least inside h) numbers stands

    -- an image with the new body holds it in the new ones
    module _ (more : b.generation + 1 < 2 ^ 64) where
      pub new_sound : IsBody n (grown n b)
      new_sound = grown_sound u n b sound longer (omega (arith, room, few_units (length bytes))) more

      pub new_holds : (image : List ℕ) → length image ≡ length bytes → Has image (body_spelling (grown n b)) (all_claims kept) → Holds (store_bytes n image) c
      new_holds image long h =
          let first = first_has_claims (512 * n) image (body_spelling (grown n b)) (all_claims kept) (omega (arith, least, longer)) (inside_more (512 * u) (512 * n) (omega (arith, longer)) (all_claims kept) inside) h in
          has_holds (store_bytes n image) (record { body = grown n b; stored = kept.stored }) c (sound_first n (grown n b) image room long new_sound) entries.0
          (record { half = first.half; current = first.current; there = subst (λ (t : List Claim). Each (IsThere (store_bytes n image)) (t ++ claims_of b.entries kept.stored)) (same_table (b.table.bytes == 0) n b) first.there }) numbers stands

      pub either_holds : (image : List ℕ) → (length image ≡ length bytes) × (Has image (body_spelling b) (all_claims kept) ⊎ Has image (body_spelling (grown n b)) (all_claims kept)) → HoldsEither u n c image
      either_holds image is = ⊎_elim (λ old. inl (old_holds image is.0 old)) (λ new. inr (new_holds image is.0 new)) is.1

-- ---- what a replacement by the body of a growth says

-- the body of a growth, and the store whose spare half it is written to
pub record IsGrowth {D : Type 0} (d : Ghosts D) (old : D) (u n : ℕ) (b : Body) (s : Half) (written : List ℕ) : Type 0 where
  pub least : bodies_end ≤ 512 * u
  pub longer : u ≤ n
  pub room : n ≤ units_of_disk (d.content old)
  pub has : HasBody (store_bytes u (d.content old)) (other s) b
  pub closed : d.is_open old ≡ nowhere
  pub sound : IsBody u b
  pub more : b.generation + 1 < 2 ^ 64
  pub is : written ≡ body_spelling (grown n b)

module _ {D : Type 0} {d : Ghosts D} {old : D} {u n : ℕ} {b : Body} {s : Half} {written : List ℕ} (g : IsGrowth d old u n b s written) where
  pub spare_is_firm : IsFirm (d.content old) (d.is_open old) s
  spare_is_firm = spare_firm (d.content old) u n b s g.least g.longer g.room g.has (d.is_open old) g.closed

  pub generation_rises : generation_of (body_of (d.content old) (other s)) < generation_of written
  generation_rises =
      let now : generation_of written ≡ b.generation + 1 = ap generation_of g.is ∙ generation_of_spelling (grown n b) g.more in
      let was = old_generation (d.content old) u n b s g.least g.longer g.room g.has g.sound.generation in
      omega (arith, now, was)

module _ {D : Type 0} {d : Ghosts D} {old : D} {u n : ℕ} {b : Body} {s : Half} {written : List ℕ} (g : IsGrowth d old u n b s written) (now : D) (P : Claim → Type 0) (c : Collection) (holds : Holds (store_bytes u (d.content old)) c) where
  abbrev claims : List Claim
  claims = all_claims (kept (d.content old) u n b s g.least g.longer g.room g.has c holds g.sound)

  held : IsHeld (d.content old) (d.is_open old) s (body_spelling b) claims
  held = grow_held (d.content old) u n b s g.least g.longer g.room g.has c holds g.sound (d.is_open old) g.closed

  next : IsNext s (places []) P claims claims
  next = grow_next (d.content old) u n b s g.least g.longer g.room g.has c holds g.sound P

  pub images_hold : ((old_body : List ℕ) (claims new_claims : List Claim) → IsHeld (d.content old) (d.is_open old) s old_body claims → IsNext s (places []) P claims new_claims
      → OnlyNew d.moment d.images_since old now (λ image. (length image ≡ length (d.content old)) × (Has image old_body claims ⊎ Has image written new_claims)))
      → OnlyNew d.moment d.images_since old now (λ image. (length image ≡ length (d.content old)) × HoldsEither u n c image)
  images_hold replaced = weaker d.moment d.images_since old now _ _
      (λ image one. (
        one.0,
        either_holds (d.content old) u n b s g.least g.longer g.room g.has c holds g.sound g.more image
            (subst (λ (w : List ℕ). (length image ≡ length (d.content old)) × (Has image (body_spelling b) claims ⊎ Has image w claims)) g.is one),
      ))
      (replaced (body_spelling b) claims claims held next)

  module _ (long : length (d.content now) ≡ length (d.content old)) (replaced : (old_body : List ℕ) (claims new_claims : List Claim) → IsHeld (d.content old) (d.is_open old) s old_body claims → IsNext s (places []) P claims new_claims
      → IsHeld (d.content now) (d.is_open now) (other s) written new_claims) where
    new_held : IsHeld (d.content now) (d.is_open now) (other s) (body_spelling (grown n b)) claims
    new_held = subst (λ (w : List ℕ). IsHeld (d.content now) (d.is_open now) (other s) w claims) g.is (replaced (body_spelling b) claims claims held next)

    pub now_holds : Holds (store_bytes n (d.content now)) c
    now_holds = new_holds (d.content old) u n b s g.least g.longer g.room g.has c holds g.sound g.more (d.content now) long
        (held_now (d.content now) (d.is_open now) (other s) (body_spelling (grown n b)) claims new_held)

    pub now_has : HasBody (store_bytes n (d.content now)) s (grown n b)
    now_has =
        let new_is : IsBody n (grown n b) = new_sound (d.content old) u n b s g.least g.longer g.room g.has c holds g.sound g.more in
        has_first (d.content now) n s (grown n b) (omega (arith, g.least, g.longer)) (subst (λ (m : ℕ). n ≤ units_in m) (sym long) g.room)
        (record {
          in_force = new_held.firm.in_force ∙ ap (λ (h : Half). Some h) (other_other s);
          spelled = ap (body_of (d.content now)) (sym (other_other s)) ∙ new_held.has_body;
          tabled = table_there (d.content now) n (grown n b) new_is
              (subst (Each (IsThere (d.content now))) (same_table (b.table.bytes == 0) n b) (each_front (IsThere (d.content now)) (table_claims b) (claims_of b.entries holds.committed.stored) (held_now (d.content now) (d.is_open now) (other s) (body_spelling (grown n b)) claims new_held).there));
          sound = new_is;
        })

-- ---- the body is read, and then the store grows

-- where images hold the collection in these units or in those, the stores in them do
pub either_stores : {D : Type 0} (moment : D → ℕ) (images_since : D → ℕ → List ℕ → Type 0) (old now : D) (bytes : List ℕ) (u n : ℕ) (c : Collection) → 64 ≤ u → u ≤ n → n ≤ units_of_disk bytes
    → OnlyNew moment images_since old now (λ image. (length image ≡ length bytes) × HoldsEither u n c image) → OnlyNew moment images_since old now (λ image. HoldsStore image c)
either_stores moment images_since old now bytes u n c least longer room only =
    let size = units_room (length bytes) in
    let few = most (length bytes) in
    weaker moment images_since old now _ _ (λ image one. ⊎_elim
    (λ was. opened_holds image u c least (omega (arith, longer, room, few)) (omega (arith, longer, room, size, one.0)) was)
    (λ new. opened_holds image n c (omega (arith, least, longer)) (omega (arith, room, few)) (omega (arith, room, size, one.0)) new)
    one.1) only

-- the body in force was read, of fewer units than its store is to have
pub record IsShorter {D : Type 0} (d : Ghosts D) (units : ℕ) (old mid : D) (half : Half) (b : Body) : Type 0 where
  pub has : HasBodyOf (session_units (d.content old)) (d.content old) half b
  pub fewer : session_units (d.content old) < units
  pub least : 64 ≤ b.units
  pub read : IsOnlyRead d.content d.is_open d.moment d.images_since old mid

module _ {D : Type 0} {d : Ghosts D} {units : ℕ} {old mid : D} {half : Half} {b : Body} (is : IsShorter d units old mid half b) where
  start : take (length (d.content old)) (d.content mid) ≡ d.content old
  start = ap (take (length (d.content old))) is.read.bytes ∙ take_all (length (d.content old)) (d.content old) (omega arith)

  pub read_has : (s : Half) → s ≡ other half → HasBody (store_bytes b.units (d.content mid)) (other s) b
  read_has = has_longer (d.content old) (d.content mid) start b half is.least is.has

  pub read_holds : (c : Collection) → HoldsStore (d.content old) c → Holds (store_bytes b.units (d.content mid)) c
  read_holds = holds_longer (d.content old) (d.content mid) start b half is.least is.has

  pub grew : (now : D) (c : Collection) → units ≤ units_of_disk (d.content old) → HoldsStore (d.content old) c
      → (Holds (store_bytes b.units (d.content mid)) c → OnlyNew d.moment d.images_since mid now (λ image. (length image ≡ length (d.content mid)) × HoldsEither b.units units c image))
      → OnlyNew d.moment d.images_since old now (λ image. HoldsStore image c)
  grew now c room holds only = read_then_only d.content d.is_open d.moment d.images_since old mid now _ is.read
      (either_stores d.moment d.images_since mid now (d.content mid) b.units units c is.least (omega (arith, is.fewer, units_of_sound (session_units (d.content old)) b is.has.sound))
      (subst (λ (bytes : List ℕ). units ≤ units_of_disk bytes) (sym is.read.bytes) room) (only (read_holds c holds)))

-- ---- what a refusal tells

-- what holds of each error that is handed on
pub of_err : {T E : Type 0} (r : Result T E) (P : E → Type 0) (Q : Result T E → Type 0) → IsErrAnd r P → ((e : E) → P e → Q (Err e)) → Q r
of_err (Ok v) P Q err each = absurd err
of_err (Err e) P Q err each = each e err

-- a fault of putting the body of a growth in force
pub failed_as : (fault : ManifestFault) (bytes : List ℕ) (units : ℕ) (half : Half) (b : Body) → HasBodyOf (session_units bytes) bytes half b → IsSoundFault fault → (fault ≡ UsedUp → b.generation ≡ 2 ^ 64 - 1)
    → GrowsAs units bytes (Err (Store fault))
failed_as NotAStore bytes units half b has sound last = absurd sound
failed_as Damaged bytes units half b has sound last = absurd sound
failed_as Disk bytes units half b has sound last = tt
failed_as UsedUp bytes units half b has sound last = record { store = record { half = half; body = b; is = has }; last = last refl }
failed_as Memory bytes units half b has sound last = tt

-- ---- what a crash may leave then

pub left_holds : {D : Type 0} (d : Ghosts D) (counts_now : (x : D) (t : ℕ) (image : List ℕ) → t ≤ d.moment x → IsImage (d.content x) (d.is_open x) image → d.images_since x t image)
    (only_now : (x : D) (image : List ℕ) → d.images_since x (d.moment x) image → IsImage (d.content x) (d.is_open x) image)
    (old now : D) (c : Collection) → d.is_open old ≡ nowhere → HoldsStore (d.content old) c → OnlyNew d.moment d.images_since old now (λ image. HoldsStore image c)
    → (image : List ℕ) → IsImage (d.content now) (d.is_open now) image → HoldsStore image c
left_holds d counts_now only_now old now c closed holds only image is = ⊎_elim
    (λ was. subst (λ (b : List ℕ). HoldsStore b c) (sym (closed_image (d.content old) image (subst (λ (o : ℕ → Bool). IsImage (d.content old) o image) closed was))) holds)
    (λ new. new)
    (images_after d.moment d.images_since d.content d.is_open counts_now only_now old now (λ image. HoldsStore image c) only image is)

-- after reads there is one image
pub read_left : {D : Type 0} (d : Ghosts D) (old mid : D) (c : Collection) → IsOnlyRead d.content d.is_open d.moment d.images_since old mid → d.is_open old ≡ nowhere → HoldsStore (d.content old) c
    → (image : List ℕ) → IsImage (d.content mid) (d.is_open mid) image → HoldsStore image c
read_left d old mid c read closed holds image is =
    let then : IsImage (d.content old) (d.is_open mid) image = subst (λ (b : List ℕ). IsImage b (d.is_open mid) image) read.bytes is in
    subst (λ (b : List ℕ). HoldsStore b c) (sym (closed_image (d.content old) image (subst (λ (o : ℕ → Bool). IsImage (d.content old) o image) (read.positions ∙ closed) then))) holds
