-- What a cache keeps of stored segments, before and after a call.
use Rattle.std.proofs.Common.{◌≡◌, ◌∙◌, ◌⊎◌, inl, inr, ℕ, zero, suc, ◌<◌, ◌||◌, Bool, true, false, not, List, [], ◌∷◌, length, get_or, Option, Some, None, refl, sym, ap, subst, arith}
use Rattle.std.specs.List.{list_any}
use Rattle.std.specs.Prelude.{IfSome}
use Rattle.std.proofs.lemmas.Bool.{and_parts}
use Rattle.pk_cache.specs.declared.cache.BlockCache.{BlockCache}
use Rattle.pk_cache.specs.declared.key.BlockKey.{BlockKey}
use Rattle.pk_cache.specs.Kept.{IsBlockAt, Keeps, entries_after, kept_at}
use Rattle.pk_cache.proofs.CallerLemmas.{each_after, each_still, keeps_only}
use Rattle.pk_dict.specs.declared.entry.Entry.{Entry}
use Rattle.pk_disk.specs.Units.{apart}
use Rattle.pk_manifest.specs.declared.manifest.Part.{Part}
use Rattle.pk_manifest.specs.Sound.{same_segment}
use Rattle.pk_model.specs.Collection.{Doc}
use Rattle.pk_lookup.proofs.EntryLemmas.{any_or}
use Rattle.pk_plan.specs.Plans.{Holding, word_at}
use Rattle.pk_posting.specs.declared.fields.ListPlace.{ListPlace}
use Rattle.pk_lookup.proofs.ListLemmas.{eqb-same, some_held}
use Rattle.pk_lookup.specs.Cached.{AddsOnlyOf, AgreesAt, AreServed, CacheAgrees, KeepsBelow, KeepsBlocksOf, Serves}
use Rattle.pk_lookup.specs.Matching.{AreEntriesOf, LeadsAs, ListLies}
use Rattle.pk_lookup.specs.declared.listed.PlannedSegment.{PlannedSegment}
use Rattle.pk_open.specs.declared.opened.OpenSegment.{OpenSegment}
use Rattle.pk_open.specs.Opened.{entries_of}
use Rattle.pk_open.proofs.PlaceLemmas.{entries_many, entry_there}
use Rattle.pk_segment.specs.Indexed.{list_with}
use Rattle.pk_segment.specs.Listing.{LeadsTo}
use Rattle.pk_segment.specs.Opened.{IsSegmentOf}
use Rattle.pk_segment.specs.Spelling.{IndexSpells}

-- WHAT IS PUT IN
pub adds_none : (id : ℕ) (cache : Option BlockCache) → AddsOnlyOf id cache cache
adds_none id cache = record { each = λ key xs kept. inl kept }

pub adds_then : (id : ℕ) (a b c : Option BlockCache) → AddsOnlyOf id a b → AddsOnlyOf id b c → AddsOnlyOf id a c
adds_then id a b c first second = record {
  each = λ key xs kept. elim (second.each key xs kept) [
    | inl was ↦ first.each key xs was
    | inr here ↦ inr here
  ];
}

-- one block more, and none after a refusal
pub adds_block : (id : ℕ) (old new : BlockCache) (key : BlockKey) (xs : List ℕ) → key.segment ≡ id → new.kept.entries ≡ entries_after new.unkept old key xs → AddsOnlyOf id (Some old) (Some new)
adds_block id old new key xs of e = record {
  each = λ other ys kept. elim (keeps_only old new key xs e other ys kept) [
    | inl was ↦ inl was
    | inr here ↦ inr (ap (λ (k : BlockKey). k.segment) here.0 ∙ of)
  ];
}

pub adds_refused : (id : ℕ) (old new : BlockCache) → new.kept ≡ old.kept → AddsOnlyOf id (Some old) (Some new)
adds_refused id old new e = record { each = each_still (λ key xs. Keeps old key xs ⊎ (key.segment ≡ id)) old new e (λ key xs kept. inl kept) }

pub keeps_block : (id : ℕ) (bytes : List ℕ) (old new : BlockCache) (key : BlockKey) (xs : List ℕ) → new.kept.entries ≡ entries_after new.unkept old key xs
    → IsBlockAt bytes key xs → KeepsBlocksOf id bytes (Some old) → KeepsBlocksOf id bytes (Some new)
keeps_block id bytes old new key xs e is all = record { each = each_after (λ k ys. k.segment ≡ id → IsBlockAt bytes k ys) old new key xs e all.each (λ of. is) }

pub keeps_refused : (id : ℕ) (bytes : List ℕ) (old new : BlockCache) → new.kept ≡ old.kept → KeepsBlocksOf id bytes (Some old) → KeepsBlocksOf id bytes (Some new)
keeps_refused id bytes old new e all = record { each = each_still (λ k ys. k.segment ≡ id → IsBlockAt bytes k ys) old new e all.each }

-- what is asked of a block that may be kept
pub if_kept : (id : ℕ) (bytes : List ℕ) (cache : BlockCache) (key : BlockKey) → key.segment ≡ id → KeepsBlocksOf id bytes (Some cache) → IfSome (kept_at cache key) (IsBlockAt bytes key)
if_kept id bytes cache key of all = by (kept_at cache key) refl
  where
    by : (o : Option (List ℕ)) → kept_at cache key ≡ o → IfSome o (IsBlockAt bytes key)
    by None e = tt
    by (Some xs) e = all.each key xs e of

-- LISTS THAT ARE SERVED
pub serves_by : (honest : Type 0) (lists : PlannedSegment) (before after : List ℕ) (old new : Option BlockCache) → (honest → after ≡ before) → AddsOnlyOf lists.opened.now.entry.segment old new
    → (honest → (words : List (List ℕ)) (docs : List Doc) → AreServed before lists words docs old → KeepsBlocksOf lists.opened.now.entry.segment before new) → Serves honest lists before old after new
serves_by honest lists before after old new same adds kept = record {
  served = λ h words docs is. record {
    index = subst (λ (x : List ℕ). IndexSpells x docs) (sym (same h)) is.index;
    are = is.are;
    cached = subst (λ (x : List ℕ). KeepsBlocksOf lists.opened.now.entry.segment x new) (sym (same h)) (kept h words docs is);
  };
  adds = adds;
}

pub serves_read : (honest : Type 0) (lists : PlannedSegment) (before after : List ℕ) (cache : Option BlockCache) → (honest → after ≡ before) → Serves honest lists before cache after cache
serves_read honest lists before after cache same = serves_by honest lists before after cache cache same (adds_none lists.opened.now.entry.segment cache) (λ h words docs is. is.cached)

pub serves_none : (honest : Type 0) (lists : PlannedSegment) (before : List ℕ) (cache : Option BlockCache) → Serves honest lists before cache before cache
serves_none honest lists before cache = serves_read honest lists before before cache (λ h. refl)

pub serves_then : (honest : Type 0) (lists : PlannedSegment) (x y z : List ℕ) (a b c : Option BlockCache) → Serves honest lists x a y b → Serves honest lists y b z c → Serves honest lists x a z c
serves_then honest lists x y z a b c first second = record {
  served = λ h words docs is. second.served h words docs (first.served h words docs is);
  adds = adds_then lists.opened.now.entry.segment a b c first.adds second.adds;
}

-- the entry at a place
abbrev LeadsAt : PlannedSegment → ℕ → Option Entry → Type 0
LeadsAt lists place o = (words : List (List ℕ)) (docs : List Doc) → AreEntriesOf lists.entries.now words docs → LeadsAs docs (word_at words place) o

-- and where the list lies that it leads to
abbrev LiesBy : PlannedSegment → Entry → ListPlace → Type 0
LiesBy lists entry lies = (bytes word : List ℕ) (docs : List Doc) → IndexSpells bytes docs → IsSegmentOf lists.opened.now.segment docs → LeadsTo docs word entry → ListLies bytes lies (list_with word docs)

-- so it is the list of a word
pub led_there : {bytes : List ℕ} {lists : PlannedSegment} {cache : Option BlockCache} {o : Option Entry} {entry : Entry} {lies : ListPlace} (place : ℕ) (words : List (List ℕ)) (docs : List Doc)
    → LeadsAt lists place o → o ≡ Some entry → LiesBy lists entry lies → AreServed bytes lists words docs cache
    → (word : List ℕ) × (word_at words place ≡ Holding word) × LeadsTo docs word entry × ListLies bytes lies (list_with word docs)
led_there place words docs leads is by served =
    let held = some_held docs (word_at words place) _ _ (leads words docs served.are.entries) is in
    (held.0, held.1, held.2, by _ held.0 docs served.index served.are.segment.segment held.2)

-- and taking it out leaves what is served
pub serves_taken : {honest : Type 0} {lists : PlannedSegment} {before after : List ℕ} {old new : Option BlockCache} {o : Option Entry} {entry : Entry} {lies : ListPlace} (place : ℕ)
    → LeadsAt lists place o → o ≡ Some entry → LiesBy lists entry lies → (honest → after ≡ before) → AddsOnlyOf lists.opened.now.entry.segment old new
    → (honest → (xs : List ℕ) → ListLies before lies xs → KeepsBlocksOf lists.opened.now.entry.segment before old → KeepsBlocksOf lists.opened.now.entry.segment before new)
    → Serves honest lists before old after new
serves_taken place leads is by same adds cached = serves_by _ _ _ _ _ _ same adds (λ h words docs served. (
    let led = led_there place words docs leads is by served in
    cached h (list_with led.0 docs) led.3 served.cached))

-- SEGMENT BY SEGMENT
pub agrees_at : (bytes : List ℕ) (cache : Option BlockCache) (opened : List OpenSegment) (i : ℕ) (o : OpenSegment) → CacheAgrees bytes cache opened → i < length opened → o ≡ get_or opened i o → AgreesAt bytes cache o
agrees_at bytes cache [] i o all lt at = absurd (omega arith)
agrees_at bytes cache (x ∷ opened) zero o all lt at = subst (AgreesAt bytes cache) (sym at) all.0
agrees_at bytes cache (x ∷ opened) (suc i) o all lt at = agrees_at bytes cache opened i o all.1 (omega arith) at

pub agrees_all : (bytes : List ℕ) (cache : Option BlockCache) (opened : List OpenSegment) → ((i : ℕ) (o : OpenSegment) → i < length opened → o ≡ get_or opened i o → AgreesAt bytes cache o) → CacheAgrees bytes cache opened
agrees_all bytes cache [] each = tt
agrees_all bytes cache (x ∷ opened) each = (each zero x (omega arith) refl, agrees_all bytes cache opened (λ i o lt at. each (suc i) o (omega arith) at))

-- an id stands at one place
or_true : (b : Bool) → (b || true) ≡ true
or_true true = refl
or_true false = refl

any_at : (x : Part) (xs : List Part) (j : ℕ) (q : Part) → j < length xs → q ≡ get_or xs j q → same_segment x q ≡ true → list_any (same_segment x) xs ≡ true
any_at x [] j q lt at same = absurd (omega arith)
any_at x (y ∷ xs) zero q lt at same = ap (λ b. b || list_any (same_segment x) xs) (subst (λ (p : Part). same_segment x p ≡ true) at same)
any_at x (y ∷ xs) (suc j) q lt at same = ap (λ b. same_segment x y || b) (any_at x xs j q (omega arith) at same) ∙ or_true (same_segment x y)

same_there : (x y : Part) → x.segment ≡ y.segment → same_segment x y ≡ true
same_there x y e = eqb-same x.segment y.segment e

pub one_place : (parts : List Part) (i j : ℕ) (p q : Part) → apart same_segment parts ≡ true → i < length parts → j < length parts → p ≡ get_or parts i p → q ≡ get_or parts j q → p.segment ≡ q.segment → i ≡ j
one_place [] i j p q ids lt less at there same = absurd (omega arith)
one_place (x ∷ parts) zero zero p q ids lt less at there same = refl
one_place (x ∷ parts) zero (suc j) p q ids lt less at there same =
    let met = any_at x parts j q (omega arith) there (same_there x q (ap (λ (r : Part). r.segment) (sym at) ∙ same)) in
    let none = (and_parts (not (list_any (same_segment x) parts)) (apart same_segment parts) ids).0 in
    absurd (let no : not true ≡ true = rw met at none in cc)
one_place (x ∷ parts) (suc i) zero p q ids lt less at there same =
    let met = any_at x parts i p (omega arith) at (same_there x p (ap (λ (r : Part). r.segment) (sym there) ∙ sym same)) in
    let none = (and_parts (not (list_any (same_segment x) parts)) (apart same_segment parts) ids).0 in
    absurd (let no : not true ≡ true = rw met at none in cc)
one_place (x ∷ parts) (suc i) (suc j) p q ids lt less at there same =
    ap suc (one_place parts i j p q (and_parts (not (list_any (same_segment x) parts)) (apart same_segment parts) ids).1 (omega arith) (omega arith) at there same)

-- the other segments agree as before with what was asked of one
pub agrees_next : (bytes : List ℕ) (old new : Option BlockCache) (opened : List OpenSegment) (i : ℕ) (o : OpenSegment) → apart same_segment (entries_of opened) ≡ true
    → i < length opened → o ≡ get_or opened i o → AddsOnlyOf o.entry.segment old new → AgreesAt bytes new o → CacheAgrees bytes old opened → CacheAgrees bytes new opened
agrees_next bytes old new opened i o ids lt at adds here all = agrees_all bytes new opened (λ j p in_opened p_at docs is of. record {
  each = λ key xs kept same. elim (adds.each key xs kept) [
    | inl was ↦ (agrees_at bytes old opened j p all in_opened p_at docs is of).each key xs was same
    | inr mine ↦ (
        let many = entries_many opened in
        let place : j ≡ i = one_place (entries_of opened) j i p.entry o.entry ids (omega (arith, in_opened, many)) (omega (arith, lt, many)) (entry_there opened j p in_opened p_at) (entry_there opened i o lt at) (sym same ∙ mine) in
        let p_is : p ≡ o = p_at ∙ ap (λ (k : ℕ). get_or opened k p) place ∙ any_or opened i p o lt ∙ sym at in
        (subst (AgreesAt bytes new) (sym p_is) here docs is of).each key xs kept same)
  ];
})

-- ids stay below the next one
pub below_next : (id next : ℕ) (old new : Option BlockCache) → AddsOnlyOf id old new → id < next → KeepsBelow next old → KeepsBelow next new
below_next id next old new adds lt below = record {
  each = λ key xs kept. elim (adds.each key xs kept) [
    | inl was ↦ below.each key xs was
    | inr mine ↦ omega (arith, mine, lt)
  ];
}
