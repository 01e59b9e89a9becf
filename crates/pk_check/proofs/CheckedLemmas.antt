-- One entry, by the numbers of its segment.
use Rattle.std.proofs.Common.{◌≡◌, ◌⊎◌, inl, inr, ℕ, ◌-◌, ◌<◌, ◌≤◌, List, [], ◌∷◌, length, get_or, slice_index, ap, subst, ◌∙◌, arith}
use Rattle.std.proofs.lemmas.List.{get_or_default, length-map}
use Rattle.pk_disk.specs.Units.{extent_bytes}
use Rattle.pk_manifest.specs.declared.manifest.Part.{Part as Entry}
use Rattle.pk_model.specs.Collection.{Doc, numbers_of}
use Rattle.pk_posting.specs.declared.fault.ReadFault.{ReadFault}
use Rattle.pk_posting.specs.declared.fault.ReadFault.TheVariants.{Damaged, Disk, Memory}
use Rattle.pk_segment.proofs.SegmentLemmas.{one_list}
use Rattle.pk_state.specs.Committed.{Stored}
use Rattle.pk_state.specs.Holds.{ListSpells, SpellsEntry}
use Rattle.pk_check.specs.Checking.{IsSegmentOfNumbers}
use Rattle.pk_check.specs.Deleted.{DeletionFailsAs, LeavesMany, stored_of}
use Rattle.pk_check.specs.Entries.{EntryFailsAs, EntryIs, LieBetween, last_number}
use Rattle.pk_check.proofs.OnwardLemmas.{between_from, first_within, last_at, last_within, segment_above}

last_of_all : (low : ℕ) (docs : List Doc) → 0 < length docs → slice_index (numbers_of docs) (length docs - 1) ≡ last_number low docs
last_of_all low [] some = absurd (omega (arith, some))
last_of_all low (d ∷ docs) some =
    let back : length (d ∷ docs) - 1 ≡ length docs = omega arith in
    ap (slice_index (numbers_of (d ∷ docs))) back ∙ last_at low d docs

module _ (bytes : List ℕ) (e : Entry) (low next : ℕ) (numbers : List ℕ) (seg : IsSegmentOfNumbers (extent_bytes bytes e.extent) e.kind numbers) where
  long : length numbers ≡ length seg.documents
  long = ap length seg.numbers_are ∙ length-map seg.documents (λ (d : Doc). d.number)

  own : (s : Stored) → SpellsEntry bytes e s → s.documents ≡ seg.documents
  own s is = one_list (extent_bytes bytes e.extent) s.documents seg.documents e.kind e.kind is.segment seg.spelled

  module _ (first last at : ℕ) (first_is : first ≡ get_or numbers 0 first) (last_is : last ≡ get_or numbers at last) (at_is : at ≡ length numbers - 1) where
    first_eq : first ≡ slice_index (numbers_of seg.documents) 0
    first_eq = first_is ∙ get_or_default numbers 0 first 0 (omega (arith, long, seg.spelled.are.some)) ∙ ap (λ (ns : List ℕ). slice_index ns 0) seg.numbers_are

    last_eq : last ≡ last_number low seg.documents
    last_eq =
        let place : at ≡ length seg.documents - 1 = omega (arith, at_is, long) in
        last_is ∙ get_or_default numbers at last 0 (omega (arith, at_is, long, seg.spelled.are.some)) ∙ ap (λ (ns : List ℕ). slice_index ns at) seg.numbers_are
        ∙ ap (slice_index (numbers_of seg.documents)) place ∙ last_of_all low seg.documents seg.spelled.are.some

    -- numbers beside the bounds
    pub not_between : (first ≤ low) ⊎ ((low < first) × (next ≤ last)) → (s : Stored) → SpellsEntry bytes e s → LieBetween low next s.documents → ⊥
    not_between (inl under) s is between =
        let here : LieBetween low next seg.documents = subst (LieBetween low next) (own s is) between in
        absurd (omega (arith, under, first_eq, first_within low next seg.documents here seg.spelled.are.some))
    not_between (inr over) s is between =
        let here : LieBetween low next seg.documents = subst (LieBetween low next) (own s is) between in
        absurd (omega (arith, over.1, last_eq, last_within low next low seg.documents here seg.spelled.are.some))

    -- numbers between them
    pub entry_is : (left : ℕ) → LeavesMany bytes e.dead seg.documents left → low < first → last < next → EntryIs bytes e low next (record { last = last; left = left })
    entry_is left l over under = record {
      stored = stored_of seg.documents l.dead;
      spelled = record { segment = seg.spelled; list = l.spelled };
      between = between_from low next seg.documents (segment_above (extent_bytes bytes e.extent) seg.documents e.kind seg.spelled) (omega (arith, over, first_eq)) (omega (arith, under, last_eq));
      last_is = last_eq;
      left_is = l.left_is;
    }

  -- a deletion list that is none
  pub entry_fails : (why : ReadFault) → DeletionFailsAs bytes e.dead seg.documents why → EntryFailsAs bytes e low next why
  entry_fails Damaged h = λ s is between. h s.dead (subst (λ (docs : List Doc). ListSpells bytes e.dead (stored_of docs s.dead)) (own s is) is.list)
  entry_fails Disk h = tt
  entry_fails Memory h = tt
