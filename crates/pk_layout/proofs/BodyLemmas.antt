-- The body that follows another one, and the claims of entries.
use Rattle.std.proofs.Common.{◌≡◌, ℕ, suc, ◌+◌, ◌*◌, ◌<◌, ◌≤◌, ◌^◌, true, false, ◌&&◌, eqb, leb, ltb, List, [], ◌∷◌, ◌++◌, Bool, length, Option, Some, None, refl, sym, ◌∙◌, ap, subst, arith, append_assoc}
use Rattle.std.specs.Prelude.{if◌then◌else◌}
use Rattle.std.specs.List.{flat_map, list_all, list_any}
use Rattle.std.proofs.lemmas.Bool.{and_from, and_parts, eqb-true, le-leb, ltb-true, lt-ltb}
use Rattle.std.proofs.lemmas.Bool.Decides.{nat_tests}
use Rattle.std.proofs.lemmas.List.Concat.{flat_map-cons}
use Rattle.pk_disk.proofs.Ranges.{or_both}
use Rattle.pk_disk.specs.Units.{IsFitted, apart, lies_within, overlap, start_of, units_for}
use Rattle.pk_disk.specs.declared.units.Extent.{Extent}
use Rattle.pk_manifest.specs.declared.manifest.Part.{Part as Entry}
use Rattle.pk_manifest.specs.Sound.{IsBody, SaysSound, dead_extents, entry_limit, extents_of, is_dead, is_extent, is_part, is_table, named, same_segment, table_extents, segment_limit}
use Rattle.pk_manifest.specs.Spelling.{Body, no_extent, table_of, table_size}
use Rattle.pk_manifest.proofs.Sound.{eqb_same, is_sound_by, says_sound}
use Rattle.pk_manifest.proofs.Fields.{if_false, length_table, table_extent, table_long}
use Rattle.pk_model.specs.Limits.{end_of_ids, end_of_numbers, max_segments}
use Rattle.pk_posting.specs.Spelling.{spelling}
use Rattle.pk_posting.proofs.SpellingLemmas.{length_spelling}
use Rattle.pk_replace.specs.Claims.{Claim}
use Rattle.pk_segment.proofs.SegmentLemmas.{length_segment}
use Rattle.pk_state.specs.Committed.{Stored}
use Rattle.pk_state.specs.Kept.{AreEntries, IsList, all_claims, claims_in, claims_of, list_claims, segment_claim, table_claims, table_claims_by}
use Rattle.pk_state.specs.Writing.{new_entry, next_body, written_kind}
use Rattle.pk_state.proofs.HoldsLemmas.{fitted_entry, fitted_list}
use Rattle.pk_state.proofs.KindLemmas.{kind_within, written_is_kind}
use Rattle.pk_layout.specs.Placed.{AreLaid}
use Rattle.pk_layout.specs.Plan.{table_at, tabled}
use Rattle.pk_layout.proofs.ApartLemmas.{apart_back}
use Rattle.pk_layout.proofs.ExtentLemmas.{laid_append, lies_in}

-- an entry stays sound when ids go on
part_later : (units next : ℕ) (p : Entry) → is_part units next p ≡ true → is_part units (next + 1) p ≡ true
part_later units next p h =
    let a = and_parts (leb 1 p.segment && ltb p.segment next && leb 1 p.kind && leb p.kind 2 && is_extent units 1 p.extent) (is_dead units p.dead) h in
    let b = and_parts (leb 1 p.segment && ltb p.segment next && leb 1 p.kind && leb p.kind 2) (is_extent units 1 p.extent) a.0 in
    let c = and_parts (leb 1 p.segment && ltb p.segment next && leb 1 p.kind) (leb p.kind 2) b.0 in
    let d = and_parts (leb 1 p.segment && ltb p.segment next) (leb 1 p.kind) c.0 in
    let e = and_parts (leb 1 p.segment) (ltb p.segment next) d.0 in
    let lt : p.segment < next = ltb-true _ _ e.1 in
    and_from _ _ (and_from _ _ (and_from _ _ (and_from _ _ (and_from _ _ e.0 (lt-ltb p.segment (next + 1) (omega (arith, lt)))) d.1) c.1) b.1) a.1

pub parts_later : (units next : ℕ) (ps : List Entry) → list_all (is_part units next) ps ≡ true → list_all (is_part units (next + 1)) ps ≡ true
parts_later units next [] h = refl
parts_later units next (p ∷ ps) h =
    let parts = and_parts (is_part units next p) (list_all (is_part units next) ps) h in
    and_from (is_part units (next + 1) p) (list_all (is_part units (next + 1)) ps) (part_later units next p parts.0) (parts_later units next ps parts.1)

-- its id is above the others'
pub part_below : (units next : ℕ) (p : Entry) → is_part units next p ≡ true → p.segment < next
part_below units next p h =
    let a = and_parts (leb 1 p.segment && ltb p.segment next && leb 1 p.kind && leb p.kind 2 && is_extent units 1 p.extent) (is_dead units p.dead) h in
    let b = and_parts (leb 1 p.segment && ltb p.segment next && leb 1 p.kind && leb p.kind 2) (is_extent units 1 p.extent) a.0 in
    let c = and_parts (leb 1 p.segment && ltb p.segment next && leb 1 p.kind) (leb p.kind 2) b.0 in
    let d = and_parts (leb 1 p.segment && ltb p.segment next) (leb 1 p.kind) c.0 in
    ltb-true _ _ (and_parts (leb 1 p.segment) (ltb p.segment next) d.0).1

pub new_id : (units : ℕ) (n : Entry) (ps : List Entry) → list_all (is_part units n.segment) ps ≡ true → list_any (same_segment n) ps ≡ false
new_id units n [] all = refl
new_id units n (p ∷ ps) all =
    let parts = and_parts (is_part units n.segment p) (list_all (is_part units n.segment) ps) all in
    let lt = part_below units n.segment p parts.0 in
    let other : eqb n.segment p.segment ≡ false = grind (arith, nat_tests, lt) in
    or_both (same_segment n p) (list_any (same_segment n) ps) other (new_id units n ps parts.1)

pub segments_turned : (p q : Entry) → same_segment p q ≡ false → same_segment q p ≡ false
segments_turned p q h = grind (arith, nat_tests, h)

-- of its extents, those of its entries alone
pub places_in : (units : ℕ) (b : Body) (es : List Extent) → apart overlap (named b ++ es) ≡ true → apart overlap (flat_map extents_of b.entries ++ es) ≡ true
places_in units b es h = apart_back (table_extents b.table) (flat_map extents_of b.entries ++ es) (ap (apart overlap) (sym (append_assoc (table_extents b.table) (flat_map extents_of b.entries) es)) ∙ h)

-- ---- a body that follows is sound

pub no_more : (n : ℕ) → n + 0 ≡ n
no_more n = omega arith

-- THE TABLE of a body that follows, in the extents that it was placed in
pub record HasTable (units count : ℕ) (table : List Extent) : Type 0 where
  pub is : is_table units (40 * count) (table_at table no_extent) ≡ true
  pub same : table_extents (table_at table no_extent) ≡ table

-- with these entries and this table, a generation later
pub next_sound : (units : ℕ) (b : Body) (next given : ℕ) (entries : List Entry) (table : List Extent) → IsBody units b → b.generation < end_of_ids → b.next_segment + given < 2 ^ 64 → 1 ≤ next → next ≤ end_of_numbers → length entries ≤ entry_limit 2
    → list_all (is_part units (b.next_segment + given)) entries ≡ true → apart same_segment entries ≡ true → HasTable units (length entries) table → apart overlap (table ++ flat_map extents_of entries) ≡ true → IsBody units (tabled table (next_body b next given entries))
next_sound units b next given entries table is left ids some most few parts own has places =
    let s = says_sound units b is.sound in
    let one : 1 ≤ b.next_segment = s.next_segment in
    record {
      generation = omega (arith, left);
      units = is.units;
      next_number = omega (arith, most);
      next_segment = ids;
      sound = is_sound_by units (tabled table (next_body b next given entries)) (record {
        low = omega arith;
        high = omega arith;
        generation = omega arith;
        of_disk = s.of_disk;
        next_number = some;
        next_segment = omega (arith, one);
        few = few;
        table = has.is;
        parts = parts;
        ids = own;
        places = ap (λ es. apart overlap (es ++ flat_map extents_of entries)) has.same ∙ places;
      });
    }

-- a table that is placed
fitted_extent : (units least : ℕ) (e : Extent) → least ≤ e.bytes → e.bytes ≤ segment_limit → IsFitted e → lies_within units e ≡ true → is_extent units least e ≡ true
fitted_extent units least e low most fitted within = and_from _ _ (and_from _ _ (and_from _ _ (le-leb _ _ low) (le-leb _ _ most)) (eqb_same _ _ fitted)) within

-- none is that of no entry
pub no_table_of : (units : ℕ) → HasTable units 0 []
no_table_of units = record { is = refl; same = refl }

pub one_table : (units n : ℕ) (e : Extent) → suc n ≤ max_segments → e.bytes ≡ 40 * suc n → IsFitted e → lies_within units e ≡ true → HasTable units (suc n) (e ∷ [])
one_table units n e few long fitted within = record {
  is = and_from _ _ (eqb_same _ _ long) (if_false (eqb (40 * suc n) 0) (eqb e.first 0 && eqb e.units 0) (is_extent units 1 e) (other (40 * suc n) (omega arith)) ∙ fitted_extent units 1 e (omega (arith, long)) (omega (arith, long, few)) fitted within);
  same = if_false (eqb e.bytes 0) [] (e ∷ []) (other e.bytes (omega (arith, long)));
}
  where
    other : (m : ℕ) → 1 ≤ m → eqb m 0 ≡ false
    other m some = grind (arith, nat_tests, some)

-- the entry of a new segment in an extent of the disk
pub new_part : (units : ℕ) (b : Body) (e : Extent) → 1 ≤ b.next_segment → 1 ≤ e.bytes → e.bytes ≤ segment_limit → IsFitted e → lies_within units e ≡ true → is_part units (b.next_segment + 1) (new_entry b e) ≡ true
new_part units b e id least most fitted within =
    let kind = kind_within written_kind written_is_kind in
    and_from _ _ (and_from _ _ (and_from _ _ (and_from _ _ (and_from _ _ (le-leb _ _ id) (lt-ltb b.next_segment (b.next_segment + 1) (omega arith))) (le-leb _ _ kind.0)) (le-leb _ _ kind.1))
    (and_from _ _ (and_from _ _ (and_from _ _ (le-leb _ _ least) (le-leb _ _ most)) (eqb_same _ _ fitted)) within)) refl

-- that of a new list
pub list_extent : (units : ℕ) (e : Extent) → 5 ≤ e.bytes → e.bytes ≤ segment_limit → IsFitted e → lies_within units e ≡ true → is_extent units 5 e ≡ true
list_extent units e least most fitted within = fitted_extent units 5 e least most fitted within

-- ---- what entries and segments stand for, with one more
pub entries_append : (es fs : List Entry) (xs ys : List Stored) → AreEntries es xs → AreEntries fs ys → AreEntries (es ++ fs) (xs ++ ys)
entries_append [] fs [] ys a b = b
entries_append [] fs (x ∷ xs) ys a b = absurd a
entries_append (e ∷ es) fs [] ys a b = absurd a
entries_append (e ∷ es) fs (x ∷ xs) ys a b = (a.0, entries_append es fs xs ys a.1 b)

pub claims_append : (es fs : List Entry) (xs ys : List Stored) → AreEntries es xs → claims_of (es ++ fs) (xs ++ ys) ≡ claims_of es xs ++ claims_of fs ys
claims_append [] fs [] ys a = refl
claims_append [] fs (x ∷ xs) ys a = absurd a
claims_append (e ∷ es) fs [] ys a = absurd a
claims_append (e ∷ es) fs (x ∷ xs) ys a = ap (λ cs. claims_in e x ++ cs) (claims_append es fs xs ys a.1) ∙ sym (append_assoc (claims_in e x) (claims_of es xs) (claims_of fs ys))

-- ---- the claims of entries lie in the extents that they name
pub list_of_part : (units next : ℕ) (e : Entry) → is_part units next e ≡ true → is_dead units e.dead ≡ true
list_of_part units next e h = (and_parts (leb 1 e.segment && ltb e.segment next && leb 1 e.kind && leb e.kind 2 && is_extent units 1 e.extent) (is_dead units e.dead) h).1

abbrev list_claim : Extent → List ℕ → Claim
list_claim e dead = record { at = start_of e; bytes = spelling dead }

list_laid : (units : ℕ) (list : Option Extent) (s : Stored) → is_dead units list ≡ true → IsList list s → AreLaid (dead_extents list) (list_claims list s.dead)
list_laid units None s h is = tt
list_laid units (Some e) s h is = (lies_in e (list_claim e s.dead) (fitted_list units e h) refl (length_spelling s.dead ∙ sym is.long), tt)

pub entries_laid : (units next : ℕ) (es : List Entry) (stored : List Stored) → list_all (is_part units next) es ≡ true → AreEntries es stored → AreLaid (flat_map extents_of es) (claims_of es stored)
entries_laid units next [] [] h are = tt
entries_laid units next [] (x ∷ stored) h are = absurd are
entries_laid units next (e ∷ es) [] h are = absurd are
entries_laid units next (e ∷ es) (x ∷ stored) h are =
    let both = and_parts (is_part units next e) (list_all (is_part units next) es) h in
    let segment = are.0.segment in
    subst (λ (xs : List Extent). AreLaid xs (claims_of (e ∷ es) (x ∷ stored))) (sym (flat_map-cons extents_of e es))
    (laid_append (extents_of e) (flat_map extents_of es) (claims_in e x) (claims_of es stored)
    (lies_in e.extent (segment_claim e x) (fitted_entry units next e both.0).0 refl (length_segment x.documents e.kind ∙ sym segment.long), list_laid units e.dead x (list_of_part units next e both.0) are.0.list)
    (entries_laid units next es stored both.1 are.1))

-- THE TABLE'S CLAIM lies in its extent, and so do all claims of a body in those that it names.
fitted_is : (units least : ℕ) (e : Extent) → is_extent units least e ≡ true → IsFitted e
fitted_is units least e h = eqb-true _ _ (and_parts (leb least e.bytes && leb e.bytes segment_limit) (eqb e.units (units_for e.bytes)) (and_parts (leb least e.bytes && leb e.bytes segment_limit && eqb e.units (units_for e.bytes)) (lies_within units e) h).0).1

-- a table with bytes has the units for them
pub table_fitted : (units : ℕ) (b : Body) → is_table units (table_size b) b.table ≡ true → eqb b.table.bytes 0 ≡ false → IsFitted b.table
table_fitted units b h is = fitted_is units 1 b.table (table_extent units (table_size b) b.table h some)
  where
    some : table_size b ≡ 0 → ⊥
    some none = let zero : eqb b.table.bytes 0 ≡ true = eqb_same _ _ (table_long units (table_size b) b.table h ∙ none) in absurd (let odd : true ≡ false = sym zero ∙ is in cc)

table_laid_by : (units : ℕ) (b : Body) → is_table units (table_size b) b.table ≡ true → (none : Bool) → eqb b.table.bytes 0 ≡ none → AreLaid (if none then [] else b.table ∷ []) (table_claims_by none b)
table_laid_by units b h true is = tt
table_laid_by units b h false is =
    let long : length (table_of b) ≡ b.table.bytes = length_table b ∙ sym (table_long units (table_size b) b.table h) in
    (lies_in b.table (record { at = start_of b.table; bytes = table_of b }) (table_fitted units b h is) refl long, tt)

pub table_laid : (units : ℕ) (b : Body) → is_table units (table_size b) b.table ≡ true → AreLaid (table_extents b.table) (table_claims b)
table_laid units b h = table_laid_by units b h (eqb b.table.bytes 0) refl

pub all_laid_in : (units : ℕ) (b : Body) (stored : List Stored) → SaysSound units b → AreEntries b.entries stored → AreLaid (named b) (all_claims (record { body = b; stored = stored }))
all_laid_in units b stored s are = laid_append (table_extents b.table) (flat_map extents_of b.entries) (table_claims b) (claims_of b.entries stored) (table_laid units b s.table) (entries_laid units b.next_segment b.entries stored s.parts are)
