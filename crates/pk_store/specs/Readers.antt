-- What readers hold that show the bytes of a disk beside the calls of a store.
use Rattle.std.specs.Prelude.{◌≡◌, ◌⊎◌, ◌≤◌, Bool, true, false, ℕ, List, [], ◌∷◌}
use Rattle.std.specs.Prelude.{drop, length, take}
use Rattle.pk_disk.specs.declared.disk.Disk.{Ghosts}
use Rattle.pk_manifest.specs.declared.half.Half.{Half}
use Rattle.pk_manifest.specs.Evolves.{in_force}
use Rattle.pk_manifest.specs.Spelling.{Body}
use Rattle.pk_state.specs.Beside.{IsAmid, IsShot}
use Rattle.pk_state.specs.Holds.{Holds, HoldsOne}
use Rattle.pk_state.specs.Legal.{State}
use Rattle.pk_state.specs.Session.{Session, Tells, marked_of, now_of}
use Rattle.pk_store.specs.Beside.{HaveWholeStamps}
use Rattle.pk_store.specs.Calls.{Call, disk_after, store_after, told}
use Rattle.pk_store.specs.View.{StoreView}

-- where a write or a sync failed in one of the calls, no generation was written in part
abbrev pub AreWhole : {D : Type 0} → Ghosts D → StoreView D → List (Call D) → Type 0
AreWhole d old [] = Unit {0}
AreWhole d old (call ∷ calls) =
    (call.store.volume.reopen ≡ true
    → HaveWholeStamps (d.content old.volume.disk) (d.content call.store.volume.disk))
    × AreWhole d call.store calls

-- the bytes are of a moment in the course of one of the calls, or after the last one
abbrev pub IsMomentIn : {D : Type 0} → Ghosts D → StoreView D → List (Call D) → List ℕ → Type 0
IsMomentIn d old [] bytes = bytes ≡ d.content old.volume.disk
IsMomentIn d old (call ∷ calls) bytes =
    IsAmid (d.content old.volume.disk) bytes (d.content call.store.volume.disk)
    ⊎ IsMomentIn d call.store calls bytes

-- the image holds what the last accepted commit left; where the store has to be opened again, that
-- or all that was accepted
abbrev pub HoldsLeft : Bool → Session → List ℕ → Type 0
HoldsLeft false s image = Holds image (marked_of s)
HoldsLeft true s image = HoldsOne (marked_of s) (now_of s) image

-- The image holds what was left when so many of the calls were answered, at least these.
pub record HoldsSince {D : Type 0} (old : StoreView D) (session : Session) (calls : List (Call D))
    (least : ℕ) (image : List ℕ) : Type 0 where
  pub answered : ℕ
  pub late : least ≤ answered
  pub most : answered ≤ length calls
  pub holds : HoldsLeft (store_after old (take answered calls)).volume.reopen
      (told session (take answered calls)) image

-- CALLS SERVE READERS. Who opens the bytes when k calls are answered, or later, shows a body of a
-- moment from there on, of a generation no less than that in force then. What is shown holds what
-- the kth call left or a later one: so it has all that was acknowledged before it was opened.
pub record ServeReaders {D : Type 0} (d : Ghosts D) (old : StoreView D) (state : State)
    (calls : List (Call D)) : Type 0 where
  pub shows : (session : Session) → Tells session state → (k : ℕ) → k ≤ length calls
      → (bytes image : List ℕ) (half : Half) (generation : ℕ) (b : Body)
      → IsMomentIn d (store_after old (take k calls)) (drop k calls) bytes
      → in_force (d.content (disk_after old calls k)) ≤ generation
      → IsShot bytes image half generation b → HoldsSince old session calls k image
