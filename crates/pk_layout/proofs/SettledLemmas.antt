-- Segments with new deletion lists: their entries are sound, stand for what is present, and each claim of theirs is an old one or that of a new list.
use Rattle.std.proofs.Common.{◌≡◌, ◌⊎◌, inl, inr, ⊎_elim, ℕ, suc, ◌<◌, ◌++◌, ◌==◌, ◌&&◌, ◌||◌, leb, ltb, Bool, true, false, not, List, [], ◌∷◌, length, map, refl, sym, ◌∙◌, ap, subst, arith, append_assoc, Option, Some, None}
use Rattle.std.specs.Prelude.{All, if◌then◌else◌}
use Rattle.std.specs.List.{AllByRecursion, flat_map, list_all, list_any}
use Rattle.std.proofs.lemmas.Bool.{and_from, and_parts, eq-eqb, eqb-true, not-false}
use Rattle.std.proofs.lemmas.List.{nil_from_length}
use Rattle.std.proofs.lemmas.List.Elements.{All-from_recursion, recursion_from_All}
use Rattle.std.proofs.lemmas.List.Concat.{flat_map-cons}
use Rattle.pk_dead.specs.Sets.{with_number}
use Rattle.pk_dead.proofs.PostingLemmas.{posting_rises}
use Rattle.pk_dead.proofs.SetLemmas.{no_longer, same_members, with_longer, with_members, with_rises}
use Rattle.pk_disk.specs.Units.{apart, overlap}
use Rattle.pk_disk.specs.declared.units.Extent.{Extent}
use Rattle.pk_disk.proofs.Ranges.{or_both, or_left, or_right}
use Rattle.pk_manifest.specs.declared.manifest.Part.{Part as Entry}
use Rattle.pk_manifest.specs.Sound.{dead_extents, extents_of, is_dead, is_extent, is_part, same_segment}
use Rattle.pk_posting.specs.Spelling.{spelling}
use Rattle.pk_posting.proofs.SpellingLemmas.{length_spelling}
use Rattle.pk_replace.specs.Claims.{Claim, Each, IsAmong}
use Rattle.pk_open.specs.declared.opened.OpenSegment.{OpenSegment}
use Rattle.pk_open.specs.Opened.{AreOpenOf, IsOpenOf, entries_of, pends, present, with_deleted}
use Rattle.pk_open.specs.Opening.{IsGrown}
use Rattle.pk_space.specs.Places.{PlacedAs}
use Rattle.pk_state.specs.Committed.{Stored, lists}
use Rattle.pk_state.specs.Kept.{AreEntries, IsEntry, IsList, IsSegment, claims_in, claims_of}
use Rattle.pk_state.proofs.HoldsLemmas.{each_append}
use Rattle.pk_layout.specs.Change.{with_list}
use Rattle.pk_layout.specs.Plan.{AreSettled, laid_in, new_lists, settled, settled_in}
use Rattle.pk_layout.proofs.ApartLemmas.{any_out, apart_back, apart_from, apart_front, apart_out, both_missed, front_missed}
use Rattle.pk_layout.proofs.ExtentLemmas.{apart_parts, overlap_sym}

-- a test is one or the other
pub by_test : {P : Type 0} (b : Bool) → (b ≡ true → P) → (b ≡ false → P) → P
by_test true h k = h refl
by_test false h k = k refl

-- ---- what is true of all, by those in front

pub settled_by : (P : List OpenSegment → List Extent → List OpenSegment → Type 0) → ((xs : List Extent) → P [] xs []) → ((os : List OpenSegment) → P os [] os)
    → ((o : OpenSegment) (os : List OpenSegment) (x : Extent) (xs : List Extent) → pends o ≡ true → P os xs (settled_in os xs) → P (o ∷ os) (x ∷ xs) (settled x o ∷ settled_in os xs))
    → ((o : OpenSegment) (os : List OpenSegment) (x : Extent) (xs : List Extent) → pends o ≡ false → P os (x ∷ xs) (settled_in os (x ∷ xs)) → P (o ∷ os) (x ∷ xs) (o ∷ settled_in os (x ∷ xs)))
    → (os : List OpenSegment) (xs : List Extent) → P os xs (settled_in os xs)
settled_by P none rest given kept [] [] = none []
settled_by P none rest given kept [] (x ∷ xs) = none (x ∷ xs)
settled_by P none rest given kept (o ∷ os) [] = rest (o ∷ os)
settled_by P none rest given kept (o ∷ os) (x ∷ xs) = by (pends o) refl (settled_by P none rest given kept os xs) (settled_by P none rest given kept os (x ∷ xs))
  where
    by : (b : Bool) → pends o ≡ b → P os xs (settled_in os xs) → P os (x ∷ xs) (settled_in os (x ∷ xs)) → P (o ∷ os) (x ∷ xs) (if b then settled x o ∷ settled_in os xs else o ∷ settled_in os (x ∷ xs))
    by true is more same = given o os x xs is more
    by false is more same = kept o os x xs is same

pub settled_long : (os : List OpenSegment) (xs : List Extent) → length (settled_in os xs) ≡ length os
settled_long = settled_by (λ os xs us. length us ≡ length os) (λ xs. refl) (λ os. refl) (λ o os x xs is more. ap suc more) (λ o os x xs is more. ap suc more)

-- ---- a segment without a pending deletion

-- a number that is deleted and not in the list makes those that are deleted more
more_deleted : (o : OpenSegment) (s : Stored) → IsOpenOf o s → (k : ℕ) → lists k o.deleted ≡ true → lists k s.dead ≡ false → length o.dead < length o.deleted
more_deleted o s is k listed left =
    let rises = posting_rises o.dead is.was in
    let missing : lists k o.dead ≡ false = ap (lists k) is.dead ∙ left in
    let longer = with_longer k o.dead missing in
    let fewer = no_longer (with_number k o.dead) o.deleted (with_rises k o.dead rises) (posting_rises o.deleted is.posting) among in
    omega (arith, longer, fewer)
  where
    kept : (j : ℕ) → (j == k || lists j o.dead) ≡ true → lists j o.deleted ≡ true
    kept j h = by_test (j == k) (λ same. subst (λ m. lists m o.deleted ≡ true) (sym (eqb-true j k same)) listed)
        (λ other. is.kept j (ap (lists j) (sym is.dead) ∙ sym (ap (λ b. b || lists j o.dead) other) ∙ h))

    among : (j : ℕ) → lists j (with_number k o.dead) ≡ true → lists j o.deleted ≡ true
    among j h = kept j (sym (with_members k j o.dead) ∙ h)

-- so without one the two are the same
pub settled_is : (o : OpenSegment) (s : Stored) → IsOpenOf o s → pends o ≡ false → s.dead ≡ o.deleted
settled_is o s is none = sym is.dead ∙ same_members o.dead o.deleted (posting_rises o.dead is.was) (posting_rises o.deleted is.posting) (λ k. by_test (lists k o.deleted)
    (λ yes. by_test (lists k s.dead) (λ h. ap (lists k) is.dead ∙ h ∙ sym yes) (λ h. let more = more_deleted o s is k yes h in let same : length o.deleted ≡ length o.dead = eqb-true _ _ (not-false _ none) in absurd (omega (arith, more, same))))
    (λ no. by_test (lists k s.dead) (λ h. absurd (let odd : true ≡ false = sym (is.kept k h) ∙ no in cc)) (λ h. ap (lists k) is.dead ∙ h ∙ sym no)))

pub settled_stored : (o : OpenSegment) (s : Stored) → IsOpenOf o s → pends o ≡ false → with_deleted o s ≡ s
settled_stored o s is none = ap (λ (dead : List ℕ). record { documents = s.documents; dead = dead }) (sym (settled_is o s is none))

-- where no list is new, nothing changes
pub all_settled : (os : List OpenSegment) (stored : List Stored) → AreOpenOf os stored → new_lists os ≡ [] → present os stored ≡ stored
all_settled [] [] are none = refl
all_settled [] (s ∷ stored) are none = absurd are
all_settled (o ∷ os) [] are none = absurd are
all_settled (o ∷ os) (s ∷ stored) are none = by (all_settled os stored are.1) (pends o) refl none
  where
    by : (new_lists os ≡ [] → present os stored ≡ stored) → (b : Bool) → pends o ≡ b → (if b then spelling o.deleted ∷ new_lists os else new_lists os) ≡ [] → with_deleted o s ∷ present os stored ≡ s ∷ stored
    by more true is h = cc
    by more false is h = ap (λ t. t ∷ present os stored) (settled_stored o s are.0 is) ∙ ap (λ ts. s ∷ ts) (more h)

-- no extent for no list
no_list : (os : List OpenSegment) (xs : List Extent) → length xs ≡ length (new_lists os) → xs ≡ [] → new_lists os ≡ []
no_list os xs same none = nil_from_length (new_lists os) (sym same ∙ ap length none)

-- the lists, with one more in front or without
given_list : (o : OpenSegment) (os : List OpenSegment) → pends o ≡ true → new_lists (o ∷ os) ≡ spelling o.deleted ∷ new_lists os
given_list o os is = ap (λ (b : Bool). if b then spelling o.deleted ∷ new_lists os else new_lists os) is

kept_list : (o : OpenSegment) (os : List OpenSegment) → pends o ≡ false → new_lists (o ∷ os) ≡ new_lists os
kept_list o os is = ap (λ (b : Bool). if b then spelling o.deleted ∷ new_lists os else new_lists os) is

-- what is true of all, where these stand for something
abbrev Settles : Type 1
Settles = List OpenSegment → List Stored → List Extent → List OpenSegment → Type 0

settled_of : (P : Settles) → P [] [] [] [] → ((os : List OpenSegment) (stored : List Stored) → AreOpenOf os stored → present os stored ≡ stored → P os stored [] os)
    → ((o : OpenSegment) (s : Stored) (os : List OpenSegment) (stored : List Stored) (x : Extent) (xs : List Extent) → IsOpenOf o s → new_lists (o ∷ os) ≡ spelling o.deleted ∷ new_lists os → P os stored xs (settled_in os xs) → P (o ∷ os) (s ∷ stored) (x ∷ xs) (settled x o ∷ settled_in os xs))
    → ((o : OpenSegment) (s : Stored) (os : List OpenSegment) (stored : List Stored) (x : Extent) (xs : List Extent) → IsOpenOf o s → with_deleted o s ≡ s → new_lists (o ∷ os) ≡ new_lists os → P os stored (x ∷ xs) (settled_in os (x ∷ xs)) → P (o ∷ os) (s ∷ stored) (x ∷ xs) (o ∷ settled_in os (x ∷ xs)))
    → (os : List OpenSegment) (stored : List Stored) (xs : List Extent) → AreOpenOf os stored → length xs ≡ length (new_lists os) → P os stored xs (settled_in os xs)
settled_of P none rest given kept [] [] [] are same = none
settled_of P none rest given kept [] [] (x ∷ xs) are same = absurd (omega (arith, same))
settled_of P none rest given kept [] (s ∷ stored) xs are same = absurd are
settled_of P none rest given kept (o ∷ os) [] xs are same = absurd are
settled_of P none rest given kept (o ∷ os) (s ∷ stored) [] are same = rest (o ∷ os) (s ∷ stored) are (all_settled (o ∷ os) (s ∷ stored) are (no_list (o ∷ os) [] same refl))
settled_of P none rest given kept (o ∷ os) (s ∷ stored) (x ∷ xs) are same = by (pends o) refl (settled_of P none rest given kept os stored xs are.1) (settled_of P none rest given kept os stored (x ∷ xs) are.1)
  where
    by : (b : Bool) → pends o ≡ b → (length xs ≡ length (new_lists os) → P os stored xs (settled_in os xs)) → (length (x ∷ xs) ≡ length (new_lists os) → P os stored (x ∷ xs) (settled_in os (x ∷ xs)))
        → P (o ∷ os) (s ∷ stored) (x ∷ xs) (if b then settled x o ∷ settled_in os xs else o ∷ settled_in os (x ∷ xs))
    by true is more same' = given o s os stored x xs are.0 (given_list o os is) (more (omega (arith, same, ap length (given_list o os is))))
    by false is more same' = kept o s os stored x xs are.0 (settled_stored o s are.0 is) (kept_list o os is) (same' (same ∙ ap length (kept_list o os is)))

-- ---- they are sound

abbrev pub IsListExtent : ℕ → Extent → Type 0
IsListExtent units x = is_extent units 5 x ≡ true

part_listed : (units next : ℕ) (e : Entry) (x : Extent) → is_part units next e ≡ true → IsListExtent units x → is_part units next (with_list e x) ≡ true
part_listed units next e x h list =
    let a = and_parts (leb 1 e.segment && ltb e.segment next && leb 1 e.kind && leb e.kind 2 && is_extent units 1 e.extent) (is_dead units e.dead) h in
    and_from (leb 1 e.segment && ltb e.segment next && leb 1 e.kind && leb e.kind 2 && is_extent units 1 e.extent) (is_extent units 5 x) a.0 list

pub parts_settled : (units next : ℕ) (os : List OpenSegment) (xs : List Extent) → list_all (is_part units next) (entries_of os) ≡ true → AllByRecursion (IsListExtent units) xs → list_all (is_part units next) (entries_of (settled_in os xs)) ≡ true
parts_settled units next = settled_by (λ os xs us. list_all (is_part units next) (entries_of os) ≡ true → AllByRecursion (IsListExtent units) xs → list_all (is_part units next) (entries_of us) ≡ true)
    (λ xs h list. refl) (λ os h list. h)
    (λ o os x xs is more h list. let parts = and_parts (is_part units next o.entry) (list_all (is_part units next) (entries_of os)) h in
    and_from (is_part units next (with_list o.entry x)) (list_all (is_part units next) (entries_of (settled_in os xs))) (part_listed units next o.entry x parts.0 list.0) (more parts.1 list.1))
    (λ o os x xs is more h list. let parts = and_parts (is_part units next o.entry) (list_all (is_part units next) (entries_of os)) h in
    and_from (is_part units next o.entry) (list_all (is_part units next) (entries_of (settled_in os (x ∷ xs)))) parts.0 (more parts.1 list))

any_settled : (p : Entry) (os : List OpenSegment) (xs : List Extent) → list_any (same_segment p) (entries_of (settled_in os xs)) ≡ list_any (same_segment p) (entries_of os)
any_settled p = settled_by (λ os xs us. list_any (same_segment p) (entries_of us) ≡ list_any (same_segment p) (entries_of os)) (λ xs. refl) (λ os. refl)
    (λ o os x xs is more. ap (λ r. same_segment p o.entry || r) more) (λ o os x xs is more. ap (λ r. same_segment p o.entry || r) more)

pub ids_settled : (os : List OpenSegment) (xs : List Extent) → apart same_segment (entries_of (settled_in os xs)) ≡ apart same_segment (entries_of os)
ids_settled = settled_by (λ os xs us. apart same_segment (entries_of us) ≡ apart same_segment (entries_of os)) (λ xs. refl) (λ os. refl)
    (λ o os x xs is more i. not (any_settled o.entry os xs i) && more i) (λ o os x xs is more i. not (any_settled o.entry os (x ∷ xs) i) && more i)

-- ---- they share no unit

-- the extents that the entries name, and those that are left to be given
abbrev there : List Entry → List Extent → List Extent
there es xs = flat_map extents_of es ++ xs

-- no extent that these miss meets the entries of others, and these share none
pub record AreFree (es : List Entry) (xs : List Extent) (fs : List Entry) : Type 0 where
  pub missed : (z : Extent) → list_any (overlap z) (there es xs) ≡ false → list_any (overlap z) (flat_map extents_of fs) ≡ false
  pub apart : apart overlap (flat_map extents_of fs) ≡ true

-- the list of an entry, in front of others that share nothing with it
list_apart : (list : Option Extent) (rest back : List Extent) → apart overlap (dead_extents list ++ rest) ≡ true → ((z : Extent) → list_any (overlap z) rest ≡ false → list_any (overlap z) back ≡ false) → apart overlap back ≡ true → apart overlap (dead_extents list ++ back) ≡ true
list_apart None rest back h missed free = free
list_apart (Some l) rest back h missed free = apart_from l back (missed l (apart_parts l rest h).0) free

-- an entry in front: the list that it has, or the next of those that are left
module _ (e : Entry) (es : List Entry) where
  -- what is there, one after the other
  split : (xs : List Extent) → there (e ∷ es) xs ≡ e.extent ∷ (dead_extents e.dead ++ (flat_map extents_of es ++ xs))
  split xs = ap (λ zs. zs ++ xs) (flat_map-cons extents_of e es) ∙ ap (λ zs. e.extent ∷ zs) (append_assoc (dead_extents e.dead) (flat_map extents_of es) xs)

  split_missed : (xs : List Extent) (z : Extent) → list_any (overlap z) (there (e ∷ es) xs) ≡ false → (overlap z e.extent ≡ false) × (list_any (overlap z) (dead_extents e.dead) ≡ false) × (list_any (overlap z) (there es xs) ≡ false)
  split_missed xs z none =
      let all : list_any (overlap z) (e.extent ∷ (dead_extents e.dead ++ there es xs)) ≡ false = ap (list_any (overlap z)) (sym (split xs)) ∙ none in
      let rest = front_missed z (dead_extents e.dead) (there es xs) (or_right (overlap z e.extent) (list_any (overlap z) (dead_extents e.dead ++ there es xs)) all) in
      (or_left (overlap z e.extent) (list_any (overlap z) (dead_extents e.dead ++ there es xs)) all, rest.0, rest.1)

  split_apart : (xs : List Extent) → apart overlap (there (e ∷ es) xs) ≡ true → (list_any (overlap e.extent) (dead_extents e.dead ++ there es xs) ≡ false) × (apart overlap (dead_extents e.dead ++ there es xs) ≡ true)
  split_apart xs h = apart_parts e.extent (dead_extents e.dead ++ there es xs) (subst (λ zs. apart overlap zs ≡ true) (split xs) h)

  -- it keeps its list
  kept_free : (xs : List Extent) (rest : List Entry) → apart overlap (there (e ∷ es) xs) ≡ true → AreFree es xs rest → AreFree (e ∷ es) xs (e ∷ rest)
  kept_free xs rest h free =
      let parts = split_apart xs h in
      let own = front_missed e.extent (dead_extents e.dead) (there es xs) parts.0 in
      let back = flat_map extents_of rest in record {
        missed = λ z none. let out = split_missed xs z none in
            ap (list_any (overlap z)) (flat_map-cons extents_of e rest) ∙ or_both (overlap z e.extent) (list_any (overlap z) (dead_extents e.dead ++ back)) out.0 (both_missed z (dead_extents e.dead) back out.1 (free.missed z out.2));
        apart = subst (λ zs. apart overlap zs ≡ true) (sym (flat_map-cons extents_of e rest))
            (apart_from e.extent (dead_extents e.dead ++ back) (both_missed e.extent (dead_extents e.dead) back own.0 (free.missed e.extent own.1)) (list_apart e.dead (there es xs) back parts.1 free.missed free.apart));
      }

  -- or gets the next one
  given_free : (x : Extent) (xs : List Extent) (rest : List Entry) → apart overlap (there (e ∷ es) (x ∷ xs)) ≡ true → AreFree es xs rest → AreFree (e ∷ es) (x ∷ xs) (with_list e x ∷ rest)
  given_free x xs rest h free =
      let out = apart_out (flat_map extents_of (e ∷ es)) xs x h in
      let of_x = split_missed xs x out.0 in
      let parts = split_apart xs out.1 in
      let own = front_missed e.extent (dead_extents e.dead) (there es xs) parts.0 in
      let back = flat_map extents_of rest in record {
        missed = λ z none. let away = any_out (overlap z) (flat_map extents_of (e ∷ es)) xs x none in let far = split_missed xs z away.1 in
            ap (list_any (overlap z)) (flat_map-cons extents_of (with_list e x) rest) ∙ or_both (overlap z e.extent) (overlap z x || list_any (overlap z) back) far.0 (or_both (overlap z x) (list_any (overlap z) back) away.0 (free.missed z far.2));
        apart = subst (λ zs. apart overlap zs ≡ true) (sym (flat_map-cons extents_of (with_list e x) rest))
            (apart_from e.extent (x ∷ back) (or_both (overlap e.extent x) (list_any (overlap e.extent) back) (overlap_sym x e.extent of_x.0) (free.missed e.extent own.1)) (apart_from x back (free.missed x of_x.2) free.apart));
      }

pub settled_free : (os : List OpenSegment) (xs : List Extent) → apart overlap (there (entries_of os) xs) ≡ true → AreFree (entries_of os) xs (entries_of (settled_in os xs))
settled_free = settled_by (λ os xs us. apart overlap (there (entries_of os) xs) ≡ true → AreFree (entries_of os) xs (entries_of us))
    (λ xs h. record { missed = λ z none. refl; apart = refl })
    (λ os h. record { missed = λ z none. (front_missed z (flat_map extents_of (entries_of os)) [] none).0; apart = apart_front (flat_map extents_of (entries_of os)) [] h })
    (λ o os x xs is more h. let e = o.entry in let es = entries_of os in
    given_free e es x xs (entries_of (settled_in os xs)) h (more (apart_back (dead_extents e.dead) (there es xs) (split_apart e es xs (apart_out (flat_map extents_of (e ∷ es)) xs x h).1).1)))
    (λ o os x xs is more h. let e = o.entry in let es = entries_of os in
    kept_free e es (x ∷ xs) (entries_of (settled_in os (x ∷ xs))) h (more (apart_back (dead_extents e.dead) (there es (x ∷ xs)) (split_apart e es (x ∷ xs) h).1)))

-- ---- they stand for what is present

list_of : (units : ℕ) (taken : List Extent) (o : OpenSegment) (s : Stored) (x : Extent) → IsOpenOf o s → x.bytes ≡ length (spelling o.deleted) → IsList (Some x) (with_deleted o s)
list_of units taken o s x is long = record { posting = is.posting; long = long ∙ length_spelling o.deleted; names = is.names }

-- the segment stays
same_segment_of : (e : Entry) (x : Extent) (o : OpenSegment) (s : Stored) → IsSegment e s → IsSegment (with_list e x) (with_deleted o s)
same_segment_of e x o s is = record { kind = is.kind; are = is.are; fits = is.fits; long = is.long }

pub entries_settled : (units : ℕ) (os : List OpenSegment) (stored : List Stored) (xs : List Extent) → AreOpenOf os stored → length xs ≡ length (new_lists os)
    → AreEntries (entries_of os) stored → (taken : List Extent) → PlacedAs units taken (map length (new_lists os)) xs → AreEntries (entries_of (settled_in os xs)) (present os stored)
entries_settled units = settled_of (λ os stored xs us. AreEntries (entries_of os) stored → (taken : List Extent) → PlacedAs units taken (map length (new_lists os)) xs → AreEntries (entries_of us) (present os stored))
    (λ entries taken placed. tt) (λ os stored are same entries taken placed. subst (AreEntries (entries_of os)) (sym same) entries)
    (λ o s os stored x xs is lists more entries taken placed. let p = subst (λ (ws : List (List ℕ)). PlacedAs units taken (map length ws) (x ∷ xs)) lists placed in
    (record { segment = same_segment_of o.entry x o s entries.0.segment; list = list_of units taken o s x is p.0.long }, more entries.1 (x ∷ taken) p.1))
    (λ o s os stored x xs is same lists more entries taken placed.
    (subst (IsEntry o.entry) (sym same) entries.0, more entries.1 taken (subst (λ (ws : List (List ℕ)). PlacedAs units taken (map length ws) (x ∷ xs)) lists placed)))

-- ---- each claim is an old one or that of a new list

pub either_weaker : (olds old_more news new_more : List Claim) → ((c : Claim) → IsAmong c olds → IsAmong c old_more) → ((c : Claim) → IsAmong c news → IsAmong c new_more) → (cs : List Claim) → Each (λ c. IsAmong c olds ⊎ IsAmong c news) cs → Each (λ c. IsAmong c old_more ⊎ IsAmong c new_more) cs
either_weaker olds old_more news new_more f g [] each = tt
either_weaker olds old_more news new_more f g (c ∷ cs) each = (⊎_elim (λ old. inl (f c old)) (λ new. inr (g c new)) each.0, either_weaker olds old_more news new_more f g cs each.1)

pub each_old : (cs more news : List Claim) → ((c : Claim) → IsAmong c cs → IsAmong c more) → Each (λ c. IsAmong c more ⊎ IsAmong c news) cs
each_old [] more news f = tt
each_old (c ∷ cs) more news f = (inl (f c (inl refl)), each_old cs more news (λ k is. f k (inr is)))

pub among_front : (c : Claim) (cs ds : List Claim) → IsAmong c cs → IsAmong c (cs ++ ds)
among_front c [] ds is = absurd is
among_front c (d ∷ cs) ds is = elim is [ inl here ↦ inl here | inr later ↦ inr (among_front c cs ds later) ]

pub among_back : (c : Claim) (cs ds : List Claim) → IsAmong c ds → IsAmong c (cs ++ ds)
among_back c [] ds is = is
among_back c (d ∷ cs) ds is = inr (among_back c cs ds is)

pub claims_settled : (os : List OpenSegment) (stored : List Stored) (xs : List Extent) → AreOpenOf os stored → length xs ≡ length (new_lists os)
    → Each (λ c. IsAmong c (claims_of (entries_of os) stored) ⊎ IsAmong c (laid_in xs (new_lists os))) (claims_of (entries_of (settled_in os xs)) (present os stored))
claims_settled = settled_of (λ os stored xs us. Each (λ c. IsAmong c (claims_of (entries_of os) stored) ⊎ IsAmong c (laid_in xs (new_lists os))) (claims_of (entries_of us) (present os stored)))
    tt
    (λ os stored are same. let olds = claims_of (entries_of os) stored in
    subst (λ ts. Each (λ c. IsAmong c olds ⊎ IsAmong c (laid_in [] (new_lists os))) (claims_of (entries_of os) ts)) (sym same) (each_old olds olds (laid_in [] (new_lists os)) (λ c is. is)))
    (λ o s os stored x xs is lists more. let olds = claims_of (entries_of (o ∷ os)) (s ∷ stored) in
    subst (λ (ws : List (List ℕ)). Each (λ c. IsAmong c olds ⊎ IsAmong c (laid_in (x ∷ xs) ws)) (claims_of (with_list o.entry x ∷ entries_of (settled_in os xs)) (with_deleted o s ∷ present os stored))) (sym lists) (
      inl (inl refl),
      (
        inr (inl refl),
        either_weaker (claims_of (entries_of os) stored) olds (laid_in xs (new_lists os)) (laid_in (x ∷ xs) (spelling o.deleted ∷ new_lists os)) (λ c k. among_back c (claims_in o.entry s) (claims_of (entries_of os) stored) k) (λ c k. inr k)
            (claims_of (entries_of (settled_in os xs)) (present os stored)) more,
      ),
    ))
    (λ o s os stored x xs is same lists more. let olds = claims_of (entries_of (o ∷ os)) (s ∷ stored) in let laid = laid_in (x ∷ xs) (new_lists os) in let rest = claims_of (entries_of (settled_in os (x ∷ xs))) (present os stored) in
    subst (λ (ws : List (List ℕ)). Each (λ c. IsAmong c olds ⊎ IsAmong c (laid_in (x ∷ xs) ws)) (claims_in o.entry (with_deleted o s) ++ rest)) (sym lists)
    (each_append (λ c. IsAmong c olds ⊎ IsAmong c laid) (claims_in o.entry (with_deleted o s)) rest
    (subst (λ t. Each (λ c. IsAmong c olds ⊎ IsAmong c laid) (claims_in o.entry t)) (sym same) (each_old (claims_in o.entry s) olds laid (λ c k. among_front c (claims_in o.entry s) (claims_of (entries_of os) stored) k)))
    (either_weaker (claims_of (entries_of os) stored) olds laid laid (λ c k. among_back c (claims_in o.entry s) (claims_of (entries_of os) stored) k) (λ c k. k) rest more)))

-- ---- segments whose deletions are all committed

-- open after it
one_settled : (x : Extent) (o : OpenSegment) (s : Stored) → IsOpenOf o s → IsOpenOf (settled x o) (with_deleted o s)
one_settled x o s is = record { segment = is.segment; dictionary = is.dictionary; dead = refl; kept = λ n h. h; names = is.names; posting = is.posting; was = is.posting }

pub settled_open : (os : List OpenSegment) (stored : List Stored) (xs : List Extent) → AreOpenOf os stored → length xs ≡ length (new_lists os) → AreOpenOf (settled_in os xs) (present os stored)
settled_open = settled_of (λ os stored xs us. AreOpenOf us (present os stored)) tt (λ os stored are same. subst (AreOpenOf os) (sym same) are)
    (λ o s os stored x xs is lists more. (one_settled x o s is, more)) (λ o s os stored x xs is same lists more. (subst (IsOpenOf o) (sym same) is, more))

-- no deletion is pending then
none_pends : (os : List OpenSegment) → new_lists os ≡ [] → AreSettled os
none_pends [] none = refl
none_pends (o ∷ os) none = by (none_pends os) (pends o) none
  where
    by : (new_lists os ≡ [] → AreSettled os) → (b : Bool) → (if b then spelling o.deleted ∷ new_lists os else new_lists os) ≡ [] → (b || list_any pends os) ≡ false
    by more true h = absurd (omega (arith, ap length h))
    by more false h = more h

settled_pends : (x : Extent) (o : OpenSegment) → pends (settled x o) ≡ false
settled_pends x o = ap not (eq-eqb (length o.deleted) (length o.deleted) refl)

pub settled_are : (os : List OpenSegment) (xs : List Extent) → length xs ≡ length (new_lists os) → AreSettled (settled_in os xs)
settled_are = settled_by (λ os xs us. length xs ≡ length (new_lists os) → AreSettled us) (λ xs same. refl) (λ os same. none_pends os (no_list os [] same refl))
    (λ o os x xs is more same. or_both (pends (settled x o)) (list_any pends (settled_in os xs)) (settled_pends x o) (more (omega (arith, same, ap length (given_list o os is)))))
    (λ o os x xs is more same. or_both (pends o) (list_any pends (settled_in os (x ∷ xs))) is (more (same ∙ ap length (kept_list o os is))))

pub settled_grown : (os : List OpenSegment) (xs : List Extent) → All IsGrown os → All IsGrown (settled_in os xs)
settled_grown os xs grown = All-from_recursion IsGrown (settled_in os xs) (settled_by (λ os xs us. AllByRecursion IsGrown os → AllByRecursion IsGrown us) (λ xs g. tt) (λ os g. g)
    (λ o os x xs is more g. (omega arith, more g.1)) (λ o os x xs is more g. (g.0, more g.1)) os xs (recursion_from_All IsGrown os grown))
