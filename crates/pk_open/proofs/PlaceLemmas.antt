-- Open segments and their entries by their place, and what these stand for there.
use Rattle.std.proofs.Common.{◌≡◌, ◌∙◌, inl, inr, ℕ, zero, suc, ◌+◌, ◌*◌, ◌<◌, Bool, true, false, List, [], ◌∷◌, drop, length, get_or, Option, Some, None, Result, Ok, Err, String, Global, arith, refl, sym, subst, ap}
use Rattle.std.specs.Prelude.{OnOk}
use Rattle.std.specs.Bool.{then_some}
use Rattle.std.proofs.lemmas.List.{length-map, length-take}
use Rattle.pk_disk.specs.Units.{extent_bytes, start_of}
use Rattle.pk_manifest.specs.declared.manifest.Part.{Part as Entry}
use Rattle.pk_model.specs.Collection.{Doc}
use Rattle.pk_open.specs.declared.opened.OpenSegment.{OpenSegment}
use Rattle.pk_open.specs.Opened.{AreOpenOf, IsOpenOf, entries_of, none_stored}
use Rattle.pk_open.specs.Seeking.{IsCut, IsLeft, IsPassed, IsReached, IsUnknown, IsWhole, SeeksPlace, SeeksText}
use Rattle.pk_open.specs.Showing.{Spans}
use Rattle.pk_open.proofs.LookUpLemmas.{located}
use Rattle.pk_posting.specs.declared.source.SourceFault.{SourceFault}
use Rattle.pk_posting.specs.declared.source.SourceFault.TheVariants as source
use Rattle.pk_posting.specs.declared.fault.ReadFault.{ReadFault}
use Rattle.pk_segment.specs.Opened.{IsSegmentOf}
use Rattle.pk_segment.specs.Spelling.{DirectorySpells, SegmentSpells, dictionary_in, postings_in, texts}
use Rattle.pk_segment.proofs.SegmentLemmas.{length_parts}
use Rattle.pk_state.specs.Committed.{Stored, lists}
use Rattle.pk_state.specs.Holds.{SpellsEntries, SpellsEntry}
use Rattle.pk_state.specs.Kept.{EndsInside, LieInside}

-- ---- as many of each
pub opened_long : (os : List OpenSegment) (stored : List Stored) → AreOpenOf os stored → length os ≡ length stored
opened_long [] [] are = refl
opened_long [] (s ∷ stored) are = absurd are
opened_long (o ∷ os) [] are = absurd are
opened_long (o ∷ os) (s ∷ stored) are = ap suc (opened_long os stored are.1)

pub entries_long : (bytes : List ℕ) (es : List Entry) (stored : List Stored) → SpellsEntries bytes es stored → length es ≡ length stored
entries_long bytes [] [] spells = refl
entries_long bytes [] (s ∷ stored) spells = absurd spells
entries_long bytes (e ∷ es) [] spells = absurd spells
entries_long bytes (e ∷ es) (s ∷ stored) spells = ap suc (entries_long bytes es stored spells.1)

-- ---- at one place
pub opened_at : (os : List OpenSegment) (stored : List Stored) (i : ℕ) (o : OpenSegment) → AreOpenOf os stored → i < length os → o ≡ get_or os i o
    → IsOpenOf o (get_or stored i none_stored)
opened_at [] stored i o are lt at = absurd (omega arith)
opened_at (x ∷ os) [] i o are lt at = absurd are
opened_at (x ∷ os) (s ∷ stored) zero o are lt at = subst (λ y. IsOpenOf y s) (sym at) are.0
opened_at (x ∷ os) (s ∷ stored) (suc i) o are lt at = opened_at os stored i o are.1 (omega arith) at

pub entry_at : (bytes : List ℕ) (es : List Entry) (stored : List Stored) (i : ℕ) (e : Entry) → SpellsEntries bytes es stored → i < length es → e ≡ get_or es i e
    → SpellsEntry bytes e (get_or stored i none_stored)
entry_at bytes [] stored i e spells lt at = absurd (omega arith)
entry_at bytes (x ∷ es) [] i e spells lt at = absurd spells
entry_at bytes (x ∷ es) (s ∷ stored) zero e spells lt at = subst (λ (y : Entry). SpellsEntry bytes y s) (sym at) spells.0
entry_at bytes (x ∷ es) (s ∷ stored) (suc i) e spells lt at = entry_at bytes es stored i e spells.1 (omega arith) at

-- an open segment's entry stands at its place
pub entry_there : (os : List OpenSegment) (i : ℕ) (o : OpenSegment) → i < length os → o ≡ get_or os i o → o.entry ≡ get_or (entries_of os) i o.entry
entry_there [] i o lt at = absurd (omega arith)
entry_there (x ∷ os) zero o lt at = ap (λ (y : OpenSegment). y.entry) at
entry_there (x ∷ os) (suc i) o lt at = entry_there os i o (omega arith) at

pub entries_many : (os : List OpenSegment) → length (entries_of os) ≡ length os
entries_many os = length-map os (λ (o : OpenSegment). o.entry)

pub spelled_at : (bytes : List ℕ) (os : List OpenSegment) (stored : List Stored) (i : ℕ) (o : OpenSegment) → SpellsEntries bytes (entries_of os) stored → i < length os → o ≡ get_or os i o
    → SpellsEntry bytes o.entry (get_or stored i none_stored)
spelled_at bytes os stored i o spells lt at = entry_at bytes (entries_of os) stored i o.entry spells (omega (arith, lt, entries_many os)) (entry_there os i o lt at)

-- what spells documents has their directory
pub directory_of : (bytes : List ℕ) (docs : List Doc) (kind : ℕ) → SegmentSpells bytes docs kind → DirectorySpells bytes docs kind
directory_of bytes docs kind spells = record { segment = bytes; spelled = spells; long = refl; same = refl }

pub inside_at : (size : ℕ) (os : List OpenSegment) (i : ℕ) (o : OpenSegment) → LieInside size (entries_of os) → i < length os → o ≡ get_or os i o → EndsInside size o.entry.extent
inside_at size os i o inside lt at = subst (λ (e : Entry). EndsInside size e.extent) (sym (entry_there os i o lt at)) (inside i o.entry (omega (arith, lt, entries_many os))).0

-- and lies whole in the extent that they are in
pub whole_of_spelled : (bytes : List ℕ) (o : OpenSegment) (docs : List Doc) (kind : ℕ) → SegmentSpells (extent_bytes bytes o.entry.extent) docs kind → IsSegmentOf o.segment docs → IsWhole o
whole_of_spelled bytes o docs kind spells is =
    let e = o.entry.extent in
    let long : length (extent_bytes bytes e) ≡ 24 + 12 * length docs + length (texts docs) + length (postings_in docs kind) + length (dictionary_in docs kind) = ap length spells.same ∙ length_parts docs kind in
    omega (arith, long, length-take e.bytes (drop (start_of e) bytes), is.count_is, is.texts_is)

-- ---- where a number is sought
-- the segment that was found for it
module _ (os : List OpenSegment) (n i : ℕ) (o : OpenSegment) (found : (i < length os) × ((d : OpenSegment) → Spans (get_or os i d) n)) (at : o ≡ get_or os i o) where
  reached : (is : OpenSegment → Type 0) → is o → IsReached os n is
  reached is such =
      let here = located os i n o found at in
      record { place = i; within = here.0; segment = o; segment_is = at; spans = here.1; such = such }

  -- it is deleted there
  pub passed : lists n o.deleted ≡ true → IsUnknown os n
  passed listed = inr (inr (reached (IsPassed n) (inl listed)))

  -- or it is not
  module _ (left : lists n o.deleted ≡ false) where
    looked_through : IsWhole o → IsUnknown os n
    looked_through whole = inr (inr (reached (IsPassed n) (inr whole)))

    pub seeks_text : (r : Result (Option (String Global)) ReadFault) → OnOk r (IsWhole o) → SeeksText os n r
    seeks_text (Ok None) whole = looked_through whole
    seeks_text (Ok (Some text)) whole = reached (IsLeft n) left
    seeks_text (Err fault) whole = reached (IsLeft n) left

    pub seeks_place : (b : Bool) → IsWhole o → SeeksPlace os n (Ok (then_some b i))
    seeks_place true whole = reached (IsLeft n) left
    seeks_place false whole = looked_through whole

    pub seeks_fault : (r : Result (Option ℕ) SourceFault) (x y : SourceFault) → r ≡ Err x → x ≡ y → ((y ≡ source.Damaged) → IsWhole o → ⊥) → SeeksPlace os n r
    seeks_fault r x y is same_fault cut = subst (SeeksPlace os n) (sym is) (subst (λ (f : SourceFault). SeeksPlace os n (Err f)) (sym same_fault) (by y cut))
      where
        by : (f : SourceFault) → ((f ≡ source.Damaged) → IsWhole o → ⊥) → SeeksPlace os n (Err f)
        by source.Damaged cut = reached (IsCut n) (left, cut refl)
        by source.Disk cut = reached (IsLeft n) left
