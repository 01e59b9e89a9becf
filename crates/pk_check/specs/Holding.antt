-- What checking a body answers.
use Rattle.std.specs.Prelude.{◌≡◌, ℕ, List, length, Result, Ok, Err}
use Rattle.pk_check.specs.declared.body.Checked.{Checked}
use Rattle.pk_manifest.specs.Spelling.{Body}
use Rattle.pk_model.specs.Collection.{Collection}
use Rattle.pk_posting.specs.declared.fault.ReadFault.{ReadFault}
use Rattle.pk_posting.specs.declared.fault.ReadFault.TheVariants.{Damaged, Disk, Memory}
use Rattle.pk_state.specs.Holds.{Holds}

-- The bytes hold a collection: it has so many documents, this next number, and so many segments.
pub record IsChecked (bytes : List ℕ) (c : Checked) : Type 0 where
  pub collection : Collection
  pub holds : Holds bytes collection
  pub documents : c.documents ≡ length collection.documents
  pub next : c.next ≡ collection.next
  pub segments : c.segments ≡ length holds.committed.body.entries

-- the bytes hold no collection
abbrev pub HoldsNone : List ℕ → Type 0
HoldsNone bytes = (c : Collection) → Holds bytes c → ⊥

-- why there is no answer, but for what the bytes are
abbrev pub HoldingFailsAs : List ℕ → ReadFault → Type 0
HoldingFailsAs bytes Damaged = HoldsNone bytes
HoldingFailsAs bytes Disk = Unit {0}
HoldingFailsAs bytes Memory = Unit {0}

-- WHAT A CHECK TELLS OF BYTES: of the collection that they hold; damaged exactly where they hold none
abbrev pub ChecksBodyAs : List ℕ → Result Checked ReadFault → Type 0
ChecksBodyAs bytes (Ok c) = IsChecked bytes c
ChecksBodyAs bytes (Err fault) = HoldingFailsAs bytes fault

-- the next number and the segments are those of the body
pub record IsOfBody (b : Body) (c : Checked) : Type 0 where
  pub next : c.next ≡ b.next_number
  pub segments : c.segments ≡ length b.entries
