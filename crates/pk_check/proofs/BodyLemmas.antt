-- What the entries of the body in force stand for is what the bytes hold.
use Rattle.std.proofs.Common.{◌≡◌, ℕ, List, refl, subst, ◌∙◌}
use Rattle.pk_manifest.specs.Current.{HasBody}
use Rattle.pk_manifest.specs.Spelling.{Body}
use Rattle.pk_manifest.specs.declared.half.Half.{Half}
use Rattle.pk_manifest.proofs.Fields.{one_body_in_force}
use Rattle.pk_model.specs.Collection.{IsCollection}
use Rattle.pk_posting.specs.declared.fault.ReadFault.{ReadFault}
use Rattle.pk_posting.specs.declared.fault.ReadFault.TheVariants.{Damaged, Disk, Memory}
use Rattle.pk_state.specs.Committed.{Committed, Stored, collection_of, whole_of}
use Rattle.pk_state.specs.Holds.{SpellsEntries}
use Rattle.pk_check.specs.declared.body.Checked.{Checked}
use Rattle.pk_check.specs.Entries.{EntriesFailAs, StandsFor, StandsForNone}
use Rattle.pk_check.specs.Holding.{HoldingFailsAs, HoldsNone, IsChecked, IsOfBody}

abbrev committed_as : Body → List Stored → Committed
committed_as b stored = record { body = b; stored = stored }

module _ (bytes : List ℕ) (half : Half) (b : Body) (has : HasBody bytes half b) where
  -- THE BRIDGE. What the entries stand for is what the bytes hold,
  pub stands_checked : (n : ℕ) (c : Checked) → StandsFor bytes b.entries b.next_number n → c.documents ≡ n → IsOfBody b c → IsChecked bytes c
  stands_checked n c stands many of = record {
    collection = collection_of (committed_as b stands.stored);
    holds = record {
      half = half;
      committed = committed_as b stands.stored;
      current = has;
      spelled = stands.spelled;
      numbers = stands.numbers;
      stands_for = refl;
    };
    documents = many ∙ stands.count_is;
    next = of.next;
    segments = of.segments;
  }

  -- and where they stand for nothing, the bytes hold nothing
  pub none_held : StandsForNone bytes b.entries b.next_number → HoldsNone bytes
  none_held none c holds =
      let same = (one_body_in_force bytes holds.half half holds.committed.body b holds.current has).1 in
      none holds.committed.stored
      (subst (λ (u : Body). SpellsEntries bytes u.entries holds.committed.stored) same holds.spelled)
      (subst (λ (u : Body). IsCollection (whole_of (committed_as u holds.committed.stored))) same holds.numbers)

  pub fault_held : (why : ReadFault) → EntriesFailAs bytes b.entries b.next_number why → HoldingFailsAs bytes why
  fault_held Damaged h = none_held h
  fault_held Disk h = tt
  fault_held Memory h = tt
