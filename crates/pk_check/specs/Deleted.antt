-- What a deletion list says of the documents of its segment.
use Rattle.std.specs.Prelude.{◌≡◌, ℕ, List, length, Option, Result, Ok, Err}
use Rattle.pk_dead.specs.declared.deletion.Dead.{Dead}
use Rattle.pk_disk.specs.declared.units.Extent.{Extent}
use Rattle.pk_model.specs.Collection.{Doc}
use Rattle.pk_posting.specs.Posting.{IsPosting}
use Rattle.pk_posting.specs.Spelling.{spelling}
use Rattle.pk_posting.specs.declared.fault.ReadFault.{ReadFault}
use Rattle.pk_posting.specs.declared.fault.ReadFault.TheVariants.{Damaged, Disk, Memory}
use Rattle.pk_state.specs.Committed.{Stored, live_of}
use Rattle.pk_state.specs.Holds.{ListSpells}

-- The bytes are the posting list of these numbers.
pub record IsListIn (bytes : List ℕ) (dead : List ℕ) : Type 0 where
  pub posting : IsPosting dead
  pub same : bytes ≡ spelling dead

abbrev pub ListFailsAs : List ℕ → ReadFault → Type 0
ListFailsAs bytes Damaged = (dead : List ℕ) → IsListIn bytes dead → ⊥
ListFailsAs bytes Disk = Unit {0}
ListFailsAs bytes Memory = Unit {0}

-- the list that the bytes are; damaged where they are none
abbrev pub ListReadAs : List ℕ → Result Dead ReadFault → Type 0
ListReadAs bytes (Ok dead) = IsListIn bytes dead
ListReadAs bytes (Err fault) = ListFailsAs bytes fault

-- the documents, with these numbers dropped
abbrev pub stored_of : List Doc → List ℕ → Stored
stored_of docs dead = record { documents = docs; dead = dead }

-- So many of the documents are left by the deletion list.
pub record LeavesMany (bytes : List ℕ) (list : Option Extent) (docs : List Doc) (left : ℕ)
    : Type 0 where
  pub dead : List ℕ
  pub spelled : ListSpells bytes list (stored_of docs dead)
  pub left_is : left ≡ length (live_of (stored_of docs dead))

abbrev pub DeletionFailsAs : List ℕ → Option Extent → List Doc → ReadFault → Type 0
DeletionFailsAs bytes list docs Damaged =
    (dead : List ℕ) → ListSpells bytes list (stored_of docs dead) → ⊥
DeletionFailsAs bytes list docs Disk = Unit {0}
DeletionFailsAs bytes list docs Memory = Unit {0}

-- how many documents are left; damaged where there is no list of numbers of these documents
abbrev pub DeletesAs : List ℕ → Option Extent → List Doc → Result ℕ ReadFault → Type 0
DeletesAs bytes list docs (Ok left) = LeavesMany bytes list docs left
DeletesAs bytes list docs (Err fault) = DeletionFailsAs bytes list docs fault
