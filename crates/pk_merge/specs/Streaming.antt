-- A merge that is written as it is read, behind the bodies: what it promises, and that this doesn't
-- rest on the bodies.
use Rattle.std.specs.Prelude.{◌≡◌, ◌≤◌, ◌*◌, ℕ, List, [], ◌∷◌, length, All, Result, Ok, Err}
use Rattle.std.proofs.Common.{inl, inr, sym, subst, ◌∙◌, arith}
use Rattle.std.proofs.lemmas.List.Elements.{All-head, All-tail}
use Rattle.pk_disk.specs.declared.disk.Disk.{Ghosts}
use Rattle.pk_disk.specs.Disk.{in_range}
use Rattle.pk_disk.specs.Units.{start_of}
use Rattle.pk_disk.proofs.Images.{same_part}
use Rattle.pk_disk.proofs.Ranges.{outside_range}
use Rattle.pk_join.specs.declared.input.MergeInput.{MergeInput}
use Rattle.pk_join.specs.Inputs.{SpellsInputs}
use Rattle.pk_manifest.specs.Bodies.{bodies_end}
use Rattle.pk_manifest.specs.Firm.{IsFar}
use Rattle.pk_merge.specs.declared.fault.MergeFault.{MergeFault}
use Rattle.pk_merge.specs.declared.fault.MergeFault.TheVariants.{TooLarge, Damaged, Disk, Memory, NotWritten}
use Rattle.pk_merge.specs.declared.kept.Kept.{Kept}
use Rattle.pk_merge.specs.declared.prepared.Prepared.{Prepared}
use Rattle.pk_merge.specs.Keeping.{AreKept, KeptApart, StayApart}
use Rattle.pk_merge.specs.Prepared.{CanMerge, IsPrepared}
use Rattle.pk_model.specs.Collection.{Doc}
use Rattle.pk_replace.specs.Cause.{NoneFailed, ReadFailed, WriteFailed}
use Rattle.pk_replace.specs.Claims.{AgreeBehind, Claim}
use Rattle.pk_segment.specs.Spelling.{SegmentSpells, segment_spelling}
use Rattle.pk_state.specs.Committed.{Stored, live_in}

-- The answer tells what failed: damage is met where nothing did.
abbrev pub IsMergeCause : {D T : Type 0} → Ghosts D → D → D → Result T MergeFault → Type 0
IsMergeCause d old new (Ok v) = NoneFailed d old new
IsMergeCause d old new (Err TooLarge) = ⊥
IsMergeCause d old new (Err Damaged) = NoneFailed d old new
IsMergeCause d old new (Err Disk) = ReadFailed d old new
IsMergeCause d old new (Err Memory) = ⊥
IsMergeCause d old new (Err NotWritten) = WriteFailed d old new

-- P holds of what is stored, for all inputs that spell it and of which this was prepared
abbrev pub OfInputs : List ℕ → ℕ → Prepared → (List Stored → Type 0) → Type 0
OfInputs bytes first p P = (inputs : List MergeInput) (stored : List Stored)
    → CanMerge (length bytes) first inputs p → SpellsInputs bytes inputs stored
    → IsPrepared bytes inputs stored p → P stored

-- its extent begins behind the bodies
abbrev pub LiesBehind : MergeInput → Type 0
LiesBehind i = bodies_end ≤ start_of i.extent

-- What is prepared can be written from a unit on, which is behind the bodies.
pub record CanStream (bytes first : ℕ) (inputs : List MergeInput) (p : Prepared) : Type 0 where
  pub can : CanMerge bytes first inputs p
  pub behind : bodies_end ≤ 512 * first

-- The inputs spell what is stored, and what is prepared is their merge. They lie behind the bodies,
-- and so do the texts that are kept.
pub record IsMergeOf (bytes : List ℕ) (inputs : List MergeInput) (p : Prepared)
    (stored : List Stored) : Type 0 where
  pub spells : SpellsInputs bytes inputs stored
  pub prepared : IsPrepared bytes inputs stored p
  pub behind : All LiesBehind inputs
  pub kept : StayApart inputs p.documents.items

-- What a merge promises from a unit on: the segment of what is left of what is stored.
pub record PromisesMerge (first : ℕ) (inputs : List MergeInput) (p : Prepared) (bytes : List ℕ)
    (c : Claim) : Type 0 where
  pub stored : List Stored
  pub merge : IsMergeOf bytes inputs p stored
  pub placed : c.at ≡ 512 * first
  pub spelled : c.bytes ≡ segment_spelling (live_in stored) 2

-- The bytes are sound for a merge where it is one of something that is stored.
pub record IsSoundMerge (inputs : List MergeInput) (p : Prepared) (bytes : List ℕ) : Type 0 where
  pub stored : List Stored
  pub merge : IsMergeOf bytes inputs p stored

-- a merge takes no position of theirs
pub far_merge : (size first : ℕ) (inputs : List MergeInput) (p : Prepared)
    → CanStream size first inputs p → IsFar (in_range (512 * first) p.size)
far_merge size first inputs p can q lt =
    outside_range (512 * first) p.size q (inl (omega (arith, can.behind, lt)))

-- what the inputs spell rests on no byte of gates and bodies
spelled_still : (bytes bytes' : List ℕ) (is : List MergeInput) (ss : List Stored)
    → AgreeBehind bytes bytes' → All LiesBehind is → SpellsInputs bytes is ss
    → SpellsInputs bytes' is ss
spelled_still bytes bytes' [] [] agree behind spells = tt
spelled_still bytes bytes' [] (s ∷ ss) agree behind spells = absurd spells
spelled_still bytes bytes' (i ∷ is) [] agree behind spells = absurd spells
spelled_still bytes bytes' (i ∷ is) (s ∷ ss) agree behind spells =
    let here : bodies_end ≤ start_of i.extent = All-head LiesBehind i is behind in
    let same = same_part bytes' bytes (start_of i.extent) i.extent.bytes agree.size
    (λ p le lt. agree.same p (omega (arith, here, le))) in (
      record {
        segment = subst (λ (l : List ℕ). SegmentSpells l s.documents i.kind) (sym same)
            spells.0.segment;
        dead = spells.0.dead;
      },
      spelled_still bytes bytes' is ss agree (All-tail LiesBehind i is behind) spells.1,
    )

-- nor do the kept texts
kept_still : (bytes bytes' : List ℕ) (ks : List Kept) (docs : List Doc) → AgreeBehind bytes bytes'
    → All (KeptApart 0 bodies_end) ks → AreKept bytes ks docs → AreKept bytes' ks docs
kept_still bytes bytes' [] [] agree apart are = tt
kept_still bytes bytes' [] (d ∷ docs) agree apart are = absurd are
kept_still bytes bytes' (k ∷ ks) [] agree apart are = absurd are
kept_still bytes bytes' (k ∷ ks) (d ∷ docs) agree apart are =
    let here : KeptApart 0 bodies_end k = All-head (KeptApart 0 bodies_end) k ks apart in
    let same = same_part bytes' bytes k.at k.len agree.size (λ p le lt. elim here [
      | inl none ↦ absurd (omega (arith, none, le, lt))
      | inr far ↦ agree.same p (omega (arith, far, le))
    ]) in (
      record {
        number_is = are.0.number_is;
        len_is = are.0.len_is;
        text_is = same ∙ are.0.text_is;
      },
      kept_still bytes bytes' ks docs agree (All-tail (KeptApart 0 bodies_end) k ks apart) are.1,
    )

-- so it is a merge of them on either disk
merge_still : (bytes bytes' : List ℕ) (inputs : List MergeInput) (p : Prepared)
    (stored : List Stored) → AgreeBehind bytes bytes' → IsMergeOf bytes inputs p stored
    → IsMergeOf bytes' inputs p stored
merge_still bytes bytes' inputs p stored agree is =
    let was = is.prepared in
    let apart = is.kept 0 bodies_end (λ k d lt. inr (is.behind k d lt)) in
    record {
      spells = spelled_still bytes bytes' inputs stored agree is.behind is.spells;
      prepared = record {
        are = was.are;
        kept = kept_still bytes bytes' p.documents.items (live_in stored) agree apart was.kept;
        lists_are = was.lists_are;
        dictionary_is = was.dictionary_is;
        front_is = was.front_is;
        size_is = was.size_is;
        fits = was.fits;
      };
      behind = is.behind;
      kept = is.kept;
    }

pub promise_still : (first : ℕ) (inputs : List MergeInput) (p : Prepared)
    (bytes bytes' : List ℕ) (c : Claim) → AgreeBehind bytes bytes'
    → PromisesMerge first inputs p bytes c → PromisesMerge first inputs p bytes' c
promise_still first inputs p bytes bytes' c agree is = record {
  stored = is.stored;
  merge = merge_still bytes bytes' inputs p is.stored agree is.merge;
  placed = is.placed;
  spelled = is.spelled;
}

pub sound_still : (inputs : List MergeInput) (p : Prepared) (bytes bytes' : List ℕ)
    → AgreeBehind bytes bytes' → IsSoundMerge inputs p bytes → IsSoundMerge inputs p bytes'
sound_still inputs p bytes bytes' agree is = record {
  stored = is.stored;
  merge = merge_still bytes bytes' inputs p is.stored agree is.merge;
}
