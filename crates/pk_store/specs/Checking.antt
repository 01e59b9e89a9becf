-- What checking a store promises.
use Rattle.std.specs.Prelude.{◌≡◌, ◌↔◌, true, false, ℕ, List, length, Result, Ok, Err, IfErr, IfOk}
use Rattle.pk_check.specs.declared.body.Checked.{Checked}
use Rattle.pk_check.specs.Holding.{HoldsNone, IsChecked, IsOfBody}
use Rattle.pk_disk.specs.declared.disk.Disk.{Ghosts}
use Rattle.pk_model.specs.declared.commands.Refusal.{Refusal}
use Rattle.pk_model.specs.declared.commands.Refusal.TheVariants.{Reopen, Damaged, Disk}
use Rattle.pk_model.specs.Collection.{Collection}
use Rattle.pk_replace.specs.Cause.{NoneFailed, ReadFailed}
use Rattle.pk_state.specs.Legal.{State}
use Rattle.pk_store.specs.Steps.{refuses_find}
use Rattle.pk_store.specs.View.{IsLookedAt, Means, StoreView}

-- what is answered, by the bytes: of the collection that they hold, or that they hold none
abbrev pub ChecksBytes : List ℕ → Result Checked Refusal → Type 0
ChecksBytes bytes (Ok c) = IsChecked bytes c
ChecksBytes bytes (Err Damaged) = HoldsNone bytes
ChecksBytes bytes (Err why) = Unit {0}

-- Disk is answered exactly where a read failed; no write or sync is asked for
abbrev pub CheckCause : {D : Type 0} → Ghosts D → D → D → Result Checked Refusal → Type 0
CheckCause d old new (Ok c) = NoneFailed d old new
CheckCause d old new (Err Disk) = ReadFailed d old new
CheckCause d old new (Err why) = NoneFailed d old new

-- WHAT CHECKING PROMISES. On an honest disk, where nothing has to be opened again: what is answered,
-- by the bytes; and the store means what it meant. On every disk: the store is as it was and its disk
-- was only read; Disk exactly where a read failed; Reopen exactly where the flag is set, and then
-- nothing is touched; and no other refusal but Memory and Damaged.
pub record Checks {D : Type 0} (d : Ghosts D) (old : StoreView D) (result : Result Checked Refusal)
    (new : StoreView D) : Type 0 where
  pub checked : d.honest → old.volume.reopen ≡ false → ChecksBytes (d.content old.volume.disk) result
  pub means : d.honest → (state : State) → Means d old state → Means d new state
  pub looked_at : IsLookedAt d old new
  pub body : IfOk result (IsOfBody old.volume.body)
  pub cause : CheckCause d old.volume.disk new.volume.disk result
  pub reopen : (result ≡ Err Reopen) ↔ (old.volume.reopen ≡ true)
  pub untouched : old.volume.reopen ≡ true → new ≡ old
  pub refused : IfErr result (λ why. refuses_find why ≡ true)

-- what a check tells of a disk that holds the collection
abbrev pub TellsOf : Collection → Result Checked Refusal → Type 0
TellsOf c (Ok checked) = (checked.documents ≡ length c.documents) × (checked.next ≡ c.next)
TellsOf c (Err Damaged) = ⊥
TellsOf c (Err why) = Unit {0}
