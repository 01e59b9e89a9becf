-- What a disk keeps for a body, what its bytes hold, and that these say the same.
use Rattle.std.specs.Prelude.{All, if◌then◌else◌}
use Rattle.std.proofs.Common.{◌≡◌, ◌==◌, inl, inr, ℕ, zero, suc, ◌+◌, ◌*◌, ◌/◌, ◌<◌, ◌≤◌, ◌&&◌, Bool, true, false, eqb, leb, ltb, List, [], ◌∷◌, ◌++◌, length, take, drop, Option, Some, None, refl, sym, ◌∙◌, ap, subst, arith, length-drop}
use Rattle.std.specs.List.{AllByRecursion, flat_map, list_all}
use Rattle.std.proofs.Math.Nat.{lt-mul-div-succ, min-le_left, mul-div-le}
use Rattle.std.proofs.lemmas.Bool.{and_parts, eqb-true, leb-true, ltb-true}
use Rattle.std.proofs.lemmas.List.{length-take-le}
use Rattle.std.proofs.lemmas.List.Concat.{flat_map-cons}
use Rattle.std.proofs.lemmas.List.Elements.{All-cons, All-head, All-nil, All-tail, recursion_from_All}
use Rattle.pk_disk.specs.Disk.{IsImage, nowhere}
use Rattle.pk_disk.specs.Since.{IsOnlyRead}
use Rattle.pk_disk.specs.Units.{IsFitted, end_of, extent_bytes, first_unit, lies_within, start_of, units_for, units_in}
use Rattle.pk_disk.specs.declared.disk.Disk.{Ghosts}
use Rattle.pk_disk.specs.declared.units.Extent.{Extent}
use Rattle.pk_disk.proofs.Reading.{after_reads}
use Rattle.pk_manifest.specs.declared.half.Half.{Half}
use Rattle.pk_manifest.specs.declared.half.Half.TheVariants.{A, B}
use Rattle.pk_manifest.specs.declared.manifest.Part.{Part as Entry}
use Rattle.pk_manifest.specs.Bodies.{body_of, generation_of, half_in_force, half_of, has_open_gate, other}
use Rattle.pk_manifest.specs.Current.{HasBody, IsTabled, units_of_disk}
use Rattle.pk_manifest.specs.Sound.{IsBody, dead_extents, extents_of, is_dead, is_extent, is_part, named, segment_limit, table_extents}
use Rattle.pk_manifest.specs.Spelling.{Body, table_of, table_size, spelling as body_spelling}
use Rattle.pk_manifest.proofs.Fields.{length_table, one_body_in_force, table_long}
use Rattle.pk_manifest.proofs.Sound.{says_sound}
use Rattle.pk_manifest.proofs.Firm.{in_force_open}
use Rattle.pk_model.specs.Collection.{Collection, Doc, IsCollection}
use Rattle.pk_posting.specs.Spelling.{spelled_length, spelling}
use Rattle.pk_posting.proofs.OneListLemmas.{one_list as one_posting}
use Rattle.pk_posting.proofs.SpellingLemmas.{length_spelling, spelling_spells}
use Rattle.pk_posting.specs.Posting.{Spells}
use Rattle.pk_replace.specs.Claims.{Claim, Each, IsThere}
use Rattle.pk_replace.specs.Held.{Has}
use Rattle.pk_segment.specs.Spelling.{IsKind, SegmentSpells, segment_length}
use Rattle.pk_segment.proofs.SegmentLemmas.{length_segment}
use Rattle.pk_segment.proofs.SegmentLemmas.{one_list as one_segment}
use Rattle.pk_state.specs.Committed.{Stored, Committed, collection_of, whole_of}
use Rattle.pk_state.specs.Holds.{AgreeWith, Holds, ListSpells, SpellsEntries, SpellsEntry}
use Rattle.pk_state.specs.Kept.{AreEntries, EndsInside, HaveKinds, IsKept, IsList, IsSegment, LieInside, ListEndsInside, all_claims, claims_in, claims_of, list_claims, segment_claim, table_claims, table_claims_by}
use Rattle.pk_state.proofs.CallerLemmas.{held_closed, held_has, held_now}

-- ---- claims that are put together

pub each_append : (P : Claim → Type 0) (cs ds : List Claim) → Each P cs → Each P ds → Each P (cs ++ ds)
each_append P [] ds first second = second
each_append P (c ∷ cs) ds first second = (first.0, each_append P cs ds first.1 second)

pub each_front : (P : Claim → Type 0) (cs ds : List Claim) → Each P (cs ++ ds) → Each P cs
each_front P [] ds both = tt
each_front P (c ∷ cs) ds both = (both.0, each_front P cs ds both.1)

pub each_back : (P : Claim → Type 0) (cs ds : List Claim) → Each P (cs ++ ds) → Each P ds
each_back P [] ds both = both
each_back P (c ∷ cs) ds both = each_back P cs ds both.1

-- ---- a sound body's extents lie within its disk

-- an extent within a disk, as inequalities
pub within_parts : (units : ℕ) (e : Extent) → lies_within units e ≡ true → (34 ≤ e.first) × (0 < e.units) × (end_of e ≤ units)
within_parts units e h =
    let a = and_parts (leb first_unit e.first && ltb 0 e.units) (leb (end_of e) units) h in
    let b = and_parts (leb first_unit e.first) (ltb 0 e.units) a.0 in
    (leb-true _ _ b.0, ltb-true _ _ b.1, leb-true _ _ a.1)

-- the units of a disk lie within it
pub units_room : (size : ℕ) → 512 * units_in size ≤ size
units_room size = omega (arith, min-le_left (size / 512) 2147483648, mul-div-le size 512)

-- the units of a sound extent are those that its bytes take
fitted_extent : (units least : ℕ) (e : Extent) → is_extent units least e ≡ true → IsFitted e × (lies_within units e ≡ true)
fitted_extent units least e h =
    let c = and_parts (leb least e.bytes && leb e.bytes segment_limit && eqb e.units (units_for e.bytes)) (lies_within units e) h in
    let d = and_parts (leb least e.bytes && leb e.bytes segment_limit) (eqb e.units (units_for e.bytes)) c.0 in
    (eqb-true _ _ d.1, c.1)

entry_parts : (units next : ℕ) (e : Entry) → is_part units next e ≡ true → (is_extent units 1 e.extent ≡ true) × (is_dead units e.dead ≡ true)
entry_parts units next e h =
    let a = and_parts (leb 1 e.segment && ltb e.segment next && leb 1 e.kind && leb e.kind 2 && is_extent units 1 e.extent) (is_dead units e.dead) h in
    ((and_parts (leb 1 e.segment && ltb e.segment next && leb 1 e.kind && leb e.kind 2) (is_extent units 1 e.extent) a.0).1, a.1)

pub fitted_entry : (units next : ℕ) (e : Entry) → is_part units next e ≡ true → IsFitted e.extent × (lies_within units e.extent ≡ true)
fitted_entry units next e h = fitted_extent units 1 e.extent (entry_parts units next e h).0

-- and so are those of a list's
pub fitted_list : (units : ℕ) (e : Extent) → is_extent units 5 e ≡ true → IsFitted e
fitted_list units e h = (fitted_extent units 5 e h).0

-- so its bytes lie within the disk
ends_inside : (units size : ℕ) → 512 * units ≤ size → (e : Extent) → IsFitted e → lies_within units e ≡ true → EndsInside size e
ends_inside units size room e fitted h =
    let some : 0 < 512 = omega arith in
    let last : end_of e ≤ units = (within_parts units e h).2 in
    omega (arith, room, fitted, last, lt-mul-div-succ (e.bytes + 511) some)

list_inside : (units size : ℕ) → 512 * units ≤ size → (list : Option Extent) → is_dead units list ≡ true → ListEndsInside size list
list_inside units size room None h = tt
list_inside units size room (Some e) h = let fitted = fitted_extent units 5 e h in ends_inside units size room e fitted.0 fitted.1

abbrev InsideEntry : ℕ → Entry → Type 0
InsideEntry size e = EndsInside size e.extent × ListEndsInside size e.dead

lie_each : (units size next : ℕ) → 512 * units ≤ size → (es : List Entry) → list_all (is_part units next) es ≡ true → LieInside size es
lie_each units size next room [] h = All-nil (InsideEntry size)
lie_each units size next room (e ∷ es) h =
    let parts = and_parts (is_part units next e) (list_all (is_part units next) es) h in
    let this = fitted_entry units next e parts.0 in
    let list = list_inside units size room e.dead (entry_parts units next e parts.0).1 in
    All-cons (InsideEntry size) e es (ends_inside units size room e.extent this.0 this.1, list) (lie_each units size next room es parts.1)

pub lie_inside : (bytes : List ℕ) (b : Body) → IsBody (units_of_disk bytes) b → LieInside (length bytes) b.entries
lie_inside bytes b is = lie_each (units_of_disk bytes) (length bytes) b.next_segment (units_room (length bytes)) b.entries (says_sound (units_of_disk bytes) b is.sound).parts

-- ---- a sound body's entries are of kinds that are read

kind_of : (k : ℕ) → 1 ≤ k → k ≤ 2 → IsKind k
kind_of zero least most = absurd (omega (arith, least))
kind_of (suc zero) least most = inl refl
kind_of (suc (suc zero)) least most = inr refl
kind_of (suc (suc (suc k))) least most = absurd (omega (arith, most))

entry_kind : (units next : ℕ) (e : Entry) → is_part units next e ≡ true → IsKind e.kind
entry_kind units next e h =
    let a = and_parts (leb 1 e.segment && ltb e.segment next && leb 1 e.kind && leb e.kind 2 && is_extent units 1 e.extent) (is_dead units e.dead) h in
    let b = and_parts (leb 1 e.segment && ltb e.segment next && leb 1 e.kind && leb e.kind 2) (is_extent units 1 e.extent) a.0 in
    let c = and_parts (leb 1 e.segment && ltb e.segment next && leb 1 e.kind) (leb e.kind 2) b.0 in
    let d = and_parts (leb 1 e.segment && ltb e.segment next) (leb 1 e.kind) c.0 in
    kind_of e.kind (leb-true _ _ d.1) (leb-true _ _ c.1)

kinds_each : (units next : ℕ) (es : List Entry) → list_all (is_part units next) es ≡ true → HaveKinds es
kinds_each units next [] h = All-nil (λ (e : Entry). IsKind e.kind)
kinds_each units next (e ∷ es) h =
    let parts = and_parts (is_part units next e) (list_all (is_part units next) es) h in
    All-cons (λ (x : Entry). IsKind x.kind) e es (entry_kind units next e parts.0) (kinds_each units next es parts.1)

pub have_kinds : (units : ℕ) (b : Body) → IsBody units b → HaveKinds b.entries
have_kinds units b is = kinds_each units b.next_segment b.entries (says_sound units b is.sound).parts

-- ---- what entries spell, as claims

-- an extent within a disk has all its bytes
length_extent : (bytes : List ℕ) (e : Extent) → start_of e + e.bytes ≤ length bytes → length (extent_bytes bytes e) ≡ e.bytes
length_extent bytes e room = length-take-le e.bytes (drop (start_of e) bytes) (omega (arith, room, length-drop (start_of e) bytes))

spelled_segment : (bytes : List ℕ) (e : Entry) (s : Stored) → start_of e.extent + e.extent.bytes ≤ length bytes → SegmentSpells (extent_bytes bytes e.extent) s.documents e.kind → IsSegment e s × IsThere bytes (segment_claim e s)
spelled_segment bytes e s room spells =
    let long : e.extent.bytes ≡ segment_length s.documents e.kind = sym (length_extent bytes e.extent room) ∙ ap length spells.same ∙ length_segment s.documents e.kind in (
      record { kind = spells.is_kind; are = spells.are; fits = spells.fits; long = long },
      ap (λ (n : ℕ). take n (drop (start_of e.extent) bytes)) (length_segment s.documents e.kind ∙ sym long) ∙ spells.same,
    )

segment_spelled : (bytes : List ℕ) (e : Entry) (s : Stored) → IsSegment e s → IsThere bytes (segment_claim e s) → SegmentSpells (extent_bytes bytes e.extent) s.documents e.kind
segment_spelled bytes e s is there = record {
  is_kind = is.kind;
  are = is.are;
  fits = is.fits;
  same = ap (λ (n : ℕ). take n (drop (start_of e.extent) bytes)) (is.long ∙ sym (length_segment s.documents e.kind)) ∙ there;
}

spelled_list : (bytes : List ℕ) (list : Option Extent) (s : Stored) → ListEndsInside (length bytes) list → ListSpells bytes list s → IsList list s × Each (IsThere bytes) (list_claims list s.dead)
spelled_list bytes None s room spells = (spells, tt)
spelled_list bytes (Some e) s room spells =
    let long : e.bytes ≡ spelled_length s.dead = sym (length_extent bytes e room) ∙ ap length spells.same ∙ length_spelling s.dead in (
      record { posting = spells.posting; long = long; names = spells.names },
      (ap (λ (n : ℕ). take n (drop (start_of e) bytes)) (length_spelling s.dead ∙ sym long) ∙ spells.same, tt),
    )

list_spelled : (bytes : List ℕ) (list : Option Extent) (s : Stored) → IsList list s → Each (IsThere bytes) (list_claims list s.dead) → ListSpells bytes list s
list_spelled bytes None s is there = is
list_spelled bytes (Some e) s is there = record {
  posting = is.posting;
  same = ap (λ (n : ℕ). take n (drop (start_of e) bytes)) (is.long ∙ sym (length_spelling s.dead)) ∙ there.0;
  names = is.names;
}

pub spelled_entries : (bytes : List ℕ) (es : List Entry) (stored : List Stored) → LieInside (length bytes) es → SpellsEntries bytes es stored → AreEntries es stored × Each (IsThere bytes) (claims_of es stored)
spelled_entries bytes [] [] inside spells = (tt, tt)
spelled_entries bytes [] (s ∷ stored) inside spells = absurd spells
spelled_entries bytes (e ∷ es) [] inside spells = absurd spells
spelled_entries bytes (e ∷ es) (s ∷ stored) inside spells =
    let ends = All-head (InsideEntry (length bytes)) e es inside in
    let segment = spelled_segment bytes e s ends.0 spells.0.segment in
    let list = spelled_list bytes e.dead s ends.1 spells.0.list in
    let more = spelled_entries bytes es stored (All-tail (InsideEntry (length bytes)) e es inside) spells.1 in (
      (record { segment = segment.0; list = list.0 }, more.0),
      each_append (IsThere bytes) (claims_in e s) (claims_of es stored) (segment.1, list.1) more.1,
    )

pub entries_spelled : (bytes : List ℕ) (es : List Entry) (stored : List Stored) → AreEntries es stored → Each (IsThere bytes) (claims_of es stored) → SpellsEntries bytes es stored
entries_spelled bytes [] [] are there = tt
entries_spelled bytes [] (s ∷ stored) are there = absurd are
entries_spelled bytes (e ∷ es) [] are there = absurd are
entries_spelled bytes (e ∷ es) (s ∷ stored) are there =
    let here = each_front (IsThere bytes) (claims_in e s) (claims_of es stored) there in (
      record { segment = segment_spelled bytes e s are.0.segment here.0; list = list_spelled bytes e.dead s are.0.list here.1 },
      entries_spelled bytes es stored are.1 (each_back (IsThere bytes) (claims_in e s) (claims_of es stored) there),
    )

-- ---- tables

-- a table is as long as the body says
table_is_long : (units : ℕ) (b : Body) → IsBody units b → length (table_of b) ≡ b.table.bytes
table_is_long units b is = length_table b ∙ sym (table_long units (table_size b) b.table (says_sound units b is.sound).table)

no_item : (xs : List ℕ) → length xs ≡ 0 → xs ≡ []
no_item [] none = refl
no_item (x ∷ xs) none = absurd (omega (arith, none))

no_bytes : (bytes : List ℕ) (e : Extent) → e.bytes ≡ 0 → extent_bytes bytes e ≡ []
no_bytes bytes e none = ap (λ (n : ℕ). take n (drop (start_of e) bytes)) none

table_kept_by : (t : Bool) (bytes : List ℕ) (b : Body) → (b.table.bytes == 0) ≡ t → length (table_of b) ≡ b.table.bytes → IsTabled bytes b → Each (IsThere bytes) (table_claims_by t b)
table_kept_by true bytes b is long tabled = tt
table_kept_by false bytes b is long tabled = (ap (λ (n : ℕ). take n (drop (start_of b.table) bytes)) long ∙ tabled, tt)

pub table_kept : (bytes : List ℕ) (units : ℕ) (b : Body) → IsBody units b → IsTabled bytes b → Each (IsThere bytes) (table_claims b)
table_kept bytes units b is tabled = table_kept_by (b.table.bytes == 0) bytes b refl (table_is_long units b is) tabled

table_there_by : (t : Bool) (bytes : List ℕ) (b : Body) → (b.table.bytes == 0) ≡ t → length (table_of b) ≡ b.table.bytes → Each (IsThere bytes) (table_claims_by t b) → IsTabled bytes b
table_there_by true bytes b is long there =
    let none : b.table.bytes ≡ 0 = eqb-true _ _ is in
    no_bytes bytes b.table none ∙ sym (no_item (table_of b) (long ∙ none))
table_there_by false bytes b is long there = ap (λ (n : ℕ). take n (drop (start_of b.table) bytes)) (sym long) ∙ there.0

pub table_there : (bytes : List ℕ) (units : ℕ) (b : Body) → IsBody units b → Each (IsThere bytes) (table_claims b) → IsTabled bytes b
table_there bytes units b is there = table_there_by (b.table.bytes == 0) bytes b refl (table_is_long units b is) there

table_agrees_by : (t : Bool) (bytes image : List ℕ) (e : Extent) → (e.bytes == 0) ≡ t → AllByRecursion (λ (x : Extent). extent_bytes image x ≡ extent_bytes bytes x) (if t then [] else e ∷ []) → extent_bytes image e ≡ extent_bytes bytes e
table_agrees_by true bytes image e is all = (let none : e.bytes ≡ 0 = eqb-true _ _ is in no_bytes image e none ∙ sym (no_bytes bytes e none))
table_agrees_by false bytes image e is all = all.0

-- ---- what a disk keeps

-- with nothing open, a body in force is kept with what its extents spell
pub kept_closed : (bytes : List ℕ) (is_open : ℕ → Bool) (spare : Half) (c : Committed) → HasBody bytes (other spare) c.body → SpellsEntries bytes c.body.entries c.stored → is_open ≡ nowhere → IsKept bytes is_open spare c
kept_closed bytes is_open spare c has spells closed =
    let entries = spelled_entries bytes c.body.entries c.stored (lie_inside bytes c.body has.sound) spells in
    record {
      sound = has.sound;
      entries = entries.0;
      held = held_closed bytes is_open spare (body_spelling c.body) (all_claims c) closed (record { in_force = has.in_force; has_body = has.spelled })
          (each_append (IsThere bytes) (table_claims c.body) (claims_of c.body.entries c.stored) (table_kept bytes (units_of_disk bytes) c.body has.sound has.tabled) entries.1);
    }

-- an image that has the body and its claims holds its collection
pub has_holds : (image : List ℕ) (committed : Committed) (c : Collection) → IsBody (units_of_disk image) committed.body → AreEntries committed.body.entries committed.stored
    → Has image (body_spelling committed.body) (all_claims committed) → IsCollection (whole_of committed) → collection_of committed ≡ c → Holds image c
has_holds image committed c sound are has numbers is = record {
  half = has.half;
  committed = committed;
  current = record {
    in_force = has.current.in_force;
    spelled = has.current.has_body;
    tabled = table_there image (units_of_disk image) committed.body sound (each_front (IsThere image) (table_claims committed.body) (claims_of committed.body.entries committed.stored) has.there);
    sound = sound;
  };
  spelled = entries_spelled image committed.body.entries committed.stored are (each_back (IsThere image) (table_claims committed.body) (claims_of committed.body.entries committed.stored) has.there);
  numbers = numbers;
  stands_for = is;
}

-- a disk that keeps what is committed: each image holds its collection
module _ (b : List ℕ) (o : ℕ → Bool) (s : Half) (c : Committed) (kept : IsKept b o s c) where
  pub kept_holds : IsCollection (whole_of c) → (image : List ℕ) → IsImage b o image → Holds image (collection_of c)
  kept_holds numbers image is = has_holds image c (collection_of c)
      (subst (λ (n : ℕ). IsBody (units_in n) c.body) (sym is.size) kept.sound) kept.entries
      (held_has b o s (body_spelling c.body) (all_claims c) kept.held image is) numbers refl

  -- and its entries spell what they stand for
  pub kept_spelled : SpellsEntries b c.body.entries c.stored
  kept_spelled = entries_spelled b c.body.entries c.stored kept.entries (each_back (IsThere b) (table_claims c.body) (claims_of c.body.entries c.stored) (held_now b o s (body_spelling c.body) (all_claims c) kept.held).there)

-- what is kept stays kept in a run of reads
pub kept_read : {D : Type 0} (d : Ghosts D) (old new : D) (s : Half) (c : Committed) → IsOnlyRead d.content d.is_open d.moment d.images_since old new
    → IsKept (d.content old) (d.is_open old) s c → IsKept (d.content new) (d.is_open new) s c
kept_read d old new s c read kept = after_reads d.content d.is_open d.moment d.images_since old new read (λ b o. IsKept b o s c) kept

-- ---- bytes hold one collection

abbrev stored_of : List Doc → List ℕ → Stored
stored_of documents dead = record { documents = documents; dead = dead }

-- one list is spelled
one_list : (bytes : List ℕ) (list : Option Extent) (s t : Stored) → ListSpells bytes list s → ListSpells bytes list t → s.dead ≡ t.dead
one_list bytes None s t x y = x ∙ sym y
one_list bytes (Some e) s t x y = one_posting (spelling t.dead) s.dead t.dead
    (subst (λ (bs : List ℕ). Spells bs s.dead) (sym x.same ∙ y.same) (spelling_spells s.dead x.posting)) (spelling_spells t.dead y.posting)

one_entry : (bytes : List ℕ) (e : Entry) (a b : Stored) → SpellsEntry bytes e a → SpellsEntry bytes e b → a ≡ b
one_entry bytes e a b x y =
    ap (λ ds. stored_of ds a.dead) (one_segment (extent_bytes bytes e.extent) a.documents b.documents e.kind e.kind x.segment y.segment)
    ∙ ap (λ ns. stored_of b.documents ns) (one_list bytes e.dead a b x.list y.list)

pub one_stored : (bytes : List ℕ) (es : List Entry) (a b : List Stored) → SpellsEntries bytes es a → SpellsEntries bytes es b → a ≡ b
one_stored bytes [] [] [] x y = refl
one_stored bytes [] [] (s ∷ b) x y = absurd y
one_stored bytes [] (s ∷ a) b x y = absurd x
one_stored bytes (e ∷ es) [] b x y = absurd x
one_stored bytes (e ∷ es) (s ∷ a) [] x y = absurd y
one_stored bytes (e ∷ es) (s ∷ a) (t ∷ b) x y =
    ap (λ u. u ∷ a) (one_entry bytes e s t x.0 y.0) ∙ ap (λ more. t ∷ more) (one_stored bytes es a b x.1 y.1)

abbrev committed_of : Body → List Stored → Committed
committed_of b stored = record { body = b; stored = stored }

-- what is committed is one, where its body is
pub one_committed : (bytes : List ℕ) (a b : Committed) → a.body ≡ b.body → SpellsEntries bytes a.body.entries a.stored → SpellsEntries bytes b.body.entries b.stored → a ≡ b
one_committed bytes a b same x y =
    let stored : a.stored ≡ b.stored = one_stored bytes b.body.entries a.stored b.stored (subst (λ (u : Body). SpellsEntries bytes u.entries a.stored) same x) y in
    ap (λ u. committed_of u a.stored) same ∙ ap (committed_of b.body) stored

pub holds_one : (bytes : List ℕ) (a b : Collection) → Holds bytes a → Holds bytes b → a ≡ b
holds_one bytes a b x y =
    let same = (one_body_in_force bytes x.half y.half x.committed.body y.committed.body x.current y.current).1 in
    sym x.stands_for ∙ ap collection_of (one_committed bytes x.committed y.committed same x.spelled y.spelled) ∙ y.stands_for

-- ---- only the gates, the bodies behind open ones, and the extents of the body in force count

-- the half in force, by gates and bodies that agree
same_half : (a b : Bool) (m n p q : ℕ) → (a ≡ true → m ≡ p) → (b ≡ true → n ≡ q) → half_of a b m n ≡ half_of a b p q
same_half true true m n p q first second = λ i. half_of true true (first refl i) (second refl i)
same_half true false m n p q first second = refl
same_half false true m n p q first second = refl
same_half false false m n p q first second = refl

all_back : (P : Extent → Type 0) (xs ys : List Extent) → AllByRecursion P (xs ++ ys) → AllByRecursion P ys
all_back P [] ys all = all
all_back P (x ∷ xs) ys all = all_back P xs ys all.1

list_agrees : (bytes image : List ℕ) (list : Option Extent) (s : Stored) → AllByRecursion (λ (e : Extent). extent_bytes image e ≡ extent_bytes bytes e) (dead_extents list) → ListSpells bytes list s → ListSpells image list s
list_agrees bytes image None s agree spells = spells
list_agrees bytes image (Some e) s agree spells = record { posting = spells.posting; same = agree.0 ∙ spells.same; names = spells.names }

all_front : (P : Extent → Type 0) (xs ys : List Extent) → AllByRecursion P (xs ++ ys) → AllByRecursion P xs
all_front P [] ys all = tt
all_front P (x ∷ xs) ys all = (all.0, all_front P xs ys all.1)

entries_agree : (bytes image : List ℕ) (es : List Entry) (stored : List Stored) → AllByRecursion (λ (e : Extent). extent_bytes image e ≡ extent_bytes bytes e) (flat_map extents_of es) → SpellsEntries bytes es stored → SpellsEntries image es stored
entries_agree bytes image [] [] agree spells = tt
entries_agree bytes image [] (s ∷ stored) agree spells = absurd spells
entries_agree bytes image (e ∷ es) [] agree spells = absurd spells
entries_agree bytes image (e ∷ es) (s ∷ stored) agree spells =
    let same : Extent → Type 0 = λ x. extent_bytes image x ≡ extent_bytes bytes x in
    let each = subst (AllByRecursion same) (flat_map-cons extents_of e es) agree in (
      record {
        segment = subst (λ (bs : List ℕ). SegmentSpells bs s.documents e.kind) (sym each.0) spells.0.segment;
        list = list_agrees bytes image e.dead s (all_front same (dead_extents e.dead) (flat_map extents_of es) each.1) spells.0.list;
      },
      entries_agree bytes image es stored (all_back same (extents_of e) (flat_map extents_of es) each) spells.1,
    )

pub entries_of_named : (bytes image : List ℕ) (b : Body) → All (λ (e : Extent). extent_bytes image e ≡ extent_bytes bytes e) (named b)
    → (stored : List Stored) → SpellsEntries bytes b.entries stored → SpellsEntries image b.entries stored
entries_of_named bytes image b agree stored spells =
    let same : Extent → Type 0 = λ x. extent_bytes image x ≡ extent_bytes bytes x in
    entries_agree bytes image b.entries stored (all_back same (table_extents b.table) (flat_map extents_of b.entries) (recursion_from_All same (named b) agree)) spells

module _ (bytes image : List ℕ) (b : Body) (agree : AgreeWith bytes image b) where
  pub same_in_force : half_in_force image ≡ half_in_force bytes
  same_in_force =
      (λ i. half_of (agree.gates A i) (agree.gates B i) (generation_of (body_of image A)) (generation_of (body_of image B)))
      ∙ same_half (has_open_gate bytes A) (has_open_gate bytes B) _ _ (generation_of (body_of bytes A)) (generation_of (body_of bytes B))
      (λ is_open. ap generation_of (agree.bodies A is_open)) (λ is_open. ap generation_of (agree.bodies B is_open))

  abbrev same : Extent → Type 0
  same x = extent_bytes image x ≡ extent_bytes bytes x

  each : AllByRecursion same (named b)
  each = recursion_from_All same (named b) agree.extents

  pub same_body : (half : Half) → HasBody bytes half b → HasBody image half b
  same_body half has = record {
    in_force = same_in_force ∙ has.in_force;
    spelled = agree.bodies half (in_force_open bytes half has.in_force) ∙ has.spelled;
    tabled = table_agrees_by (b.table.bytes == 0) bytes image b.table refl (all_front same (table_extents b.table) (flat_map extents_of b.entries) each) ∙ has.tabled;
    sound = subst (λ (n : ℕ). IsBody (units_in n) b) (sym agree.size) has.sound;
  }

  pub same_entries : (stored : List Stored) → SpellsEntries bytes b.entries stored → SpellsEntries image b.entries stored
  same_entries stored spells = entries_of_named bytes image b agree.extents stored spells

  pub agree_back : AgreeWith image bytes b
  agree_back = record {
    size = sym agree.size;
    gates = λ half. sym (agree.gates half);
    bodies = λ half is_open. sym (agree.bodies half (sym (agree.gates half) ∙ is_open));
    extents = λ k e lt. sym (agree.extents k e lt);
  }

-- bytes with the same body in force and the same extents of it hold the same collection
pub holds_with : (bytes image : List ℕ) (half image_half : Half) (b : Body) (c : Collection) → HasBody bytes half b → HasBody image image_half b
    → All (λ e. extent_bytes image e ≡ extent_bytes bytes e) (named b) → Holds bytes c → Holds image c
holds_with bytes image half image_half b c has shown agree holds =
    let same : holds.committed.body ≡ b = (one_body_in_force bytes holds.half half holds.committed.body b holds.current has).1 in
    let spelled : SpellsEntries bytes b.entries holds.committed.stored = subst (λ (u : Body). SpellsEntries bytes u.entries holds.committed.stored) same holds.spelled in
    record {
      half = image_half;
      committed = committed_of b holds.committed.stored;
      current = shown;
      spelled = entries_of_named bytes image b agree holds.committed.stored spelled;
      numbers = subst (λ (u : Body). IsCollection (whole_of (committed_of u holds.committed.stored))) same holds.numbers;
      stands_for = ap (λ (u : Body). collection_of (committed_of u holds.committed.stored)) (sym same) ∙ holds.stands_for;
    }

pub holds_frame : (bytes image : List ℕ) (half : Half) (b : Body) (c : Collection) → HasBody bytes half b → AgreeWith bytes image b → Holds bytes c → Holds image c
holds_frame bytes image half b c has agree holds = holds_with bytes image half half b c has (same_body bytes image b agree half has) agree.extents holds
