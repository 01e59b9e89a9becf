-- A disk that is longer than its store, and the body that makes the store longer.
use Rattle.std.specs.Prelude.{◌≡◌, ◌⊎◌, ◌+◌, ◌-◌, ◌*◌, ◌^◌, ◌<◌, ℕ, List, take, Option, None, Some, Result, Ok, Err}
use Rattle.pk_disk.specs.declared.disk.Disk.{Ghosts}
use Rattle.pk_disk.specs.Since.{IsOnlyRead}
use Rattle.pk_grow.specs.declared.fault.GrowFault.{GrowFault}
use Rattle.pk_grow.specs.declared.fault.GrowFault.TheVariants.{Shorter, Store}
use Rattle.pk_grow.specs.declared.fault.Growth.{Growth}
use Rattle.pk_grow.specs.declared.fault.Growth.TheVariants.{AsItWas, Grown}
use Rattle.pk_manifest.specs.Current.{FaultOf, HasBodyOf, units_of_disk}
use Rattle.pk_manifest.specs.Said.{said_units, store_units}
use Rattle.pk_manifest.specs.Spelling.{Body, view}
use Rattle.pk_manifest.specs.declared.fault.ManifestFault.{ManifestFault}
use Rattle.pk_manifest.specs.declared.fault.ManifestFault.TheVariants.{NotAStore, Damaged, Disk, UsedUp, Memory}
use Rattle.pk_manifest.specs.declared.half.Half.{Half}
use Rattle.pk_manifest.specs.declared.manifest.Manifest.{Manifest}
use Rattle.pk_model.specs.Collection.{Collection}
use Rattle.pk_replace.specs.Cause.{NoneFailed, ReadFailed, WriteFailed}
use Rattle.pk_state.specs.Holds.{Holds}

-- the bytes of a store of so many units, on a disk of at least as many
abbrev pub store_bytes : ℕ → List ℕ → List ℕ
store_bytes units bytes = take (512 * units) bytes

-- the units of the store in a disk of these bytes
abbrev pub session_units : List ℕ → ℕ
session_units bytes = store_units (units_of_disk bytes) (said_units bytes)

-- THE STORE IN A DISK holds the collection: the first units of the disk do, as many as the store has.
abbrev pub HoldsStore : List ℕ → Collection → Type 0
HoldsStore bytes c = Holds (store_bytes (session_units bytes) bytes) c

-- the body of a growth: the next generation, so many units, and all else as it was
abbrev pub grown : ℕ → Body → Body
grown units b = record {
  version = b.version;
  generation = b.generation + 1;
  units = units;
  next_number = b.next_number;
  next_segment = b.next_segment;
  table = b.table;
  entries = b.entries;
}

-- the collection is held by a store of the old units, or by one of the new ones
abbrev pub HoldsEither : ℕ → ℕ → Collection → List ℕ → Type 0
HoldsEither old new c bytes = Holds (store_bytes old bytes) c ⊎ Holds (store_bytes new bytes) c

-- A fault tells what failed of the disk: Disk that a call did, each other that none did.
abbrev pub FaultCause : {D : Type 0} → Ghosts D → D → D → ManifestFault → Type 0
FaultCause d old new NotAStore = NoneFailed d old new
FaultCause d old new Damaged = NoneFailed d old new
FaultCause d old new Disk = ReadFailed d old new ⊎ WriteFailed d old new
FaultCause d old new UsedUp = NoneFailed d old new
FaultCause d old new Memory = NoneFailed d old new

-- so does the answer of putting the body of a growth in force
abbrev pub BodyCause : {D T : Type 0} → Ghosts D → D → D → Result T ManifestFault → Type 0
BodyCause d old new (Ok v) = NoneFailed d old new
BodyCause d old new (Err fault) = FaultCause d old new fault

-- and that of a growth
abbrev pub GrowCause : {D T : Type 0} → Ghosts D → D → D → Result T GrowFault → Type 0
GrowCause d old new (Ok v) = NoneFailed d old new
GrowCause d old new (Err Shorter) = NoneFailed d old new
GrowCause d old new (Err (Store fault)) = FaultCause d old new fault

-- but for a fault of the device, a refusal leaves the very disk
abbrev pub KeepsUnlessDisk : {D T : Type 0} → Result T ManifestFault → D → D → Type 0
KeepsUnlessDisk (Ok v) old new = Unit {0}
KeepsUnlessDisk (Err NotAStore) old new = new ≡ old
KeepsUnlessDisk (Err Damaged) old new = new ≡ old
KeepsUnlessDisk (Err Disk) old new = Unit {0}
KeepsUnlessDisk (Err UsedUp) old new = new ≡ old
KeepsUnlessDisk (Err Memory) old new = new ≡ old

-- the disk was only read
abbrev pub WasRead : {D : Type 0} → Ghosts D → D → D → Type 0
WasRead d old new = IsOnlyRead d.content d.is_open d.moment d.images_since old new

-- a growth that was not done, but for a fault of the device, only read the disk
abbrev pub WritesNothing : {D : Type 0} → Ghosts D → D → D → Result Growth GrowFault → Type 0
WritesNothing d old new (Ok Grown) = Unit {0}
WritesNothing d old new (Ok AsItWas) = WasRead d old new
WritesNothing d old new (Err Shorter) = WasRead d old new
WritesNothing d old new (Err (Store NotAStore)) = WasRead d old new
WritesNothing d old new (Err (Store Damaged)) = WasRead d old new
WritesNothing d old new (Err (Store Disk)) = Unit {0}
WritesNothing d old new (Err (Store UsedUp)) = WasRead d old new
WritesNothing d old new (Err (Store Memory)) = WasRead d old new

-- a fault that says nothing against the store: of the device, of memory, or of its numbers
abbrev pub IsSoundFault : ManifestFault → Type 0
IsSoundFault NotAStore = ⊥
IsSoundFault Damaged = ⊥
IsSoundFault Disk = Unit {0}
IsSoundFault UsedUp = Unit {0}
IsSoundFault Memory = Unit {0}

abbrev pub IsSoundGrowFault : GrowFault → Type 0
IsSoundGrowFault Shorter = Unit {0}
IsSoundGrowFault (Store fault) = IsSoundFault fault

-- the store in the disk has a sound body in force
pub record HasStore (bytes : List ℕ) : Type 0 where
  pub half : Half
  pub body : Body
  pub is : HasBodyOf (session_units bytes) bytes half body

-- the store's numbers of generations are used up
pub record HasNoNext (bytes : List ℕ) : Type 0 where
  pub store : HasStore bytes
  pub last : store.body.generation ≡ 2 ^ 64 - 1

-- the body that is to grow to so many units: none where the store has as many
abbrev pub IsDue : ℕ → List ℕ → Result (Option (Manifest × Half)) GrowFault → Type 0
IsDue units bytes (Ok None) = HasStore bytes × (session_units bytes ≡ units)
IsDue units bytes (Ok (Some found)) =
    HasBodyOf (session_units bytes) bytes found.1 (view found.0) × (session_units bytes < units)
IsDue units bytes (Err Shorter) = HasStore bytes × (units < session_units bytes)
IsDue units bytes (Err (Store fault)) = FaultOf (session_units bytes) bytes fault

-- WHICH ANSWER COMES: the store had fewer units, as many, or more; its numbers are used up; or its
-- body is not read, for a fault of reading.
abbrev pub GrowsAs : ℕ → List ℕ → Result Growth GrowFault → Type 0
GrowsAs units bytes (Ok Grown) = HasStore bytes × (session_units bytes < units)
GrowsAs units bytes (Ok AsItWas) = HasStore bytes × (session_units bytes ≡ units)
GrowsAs units bytes (Err Shorter) = HasStore bytes × (units < session_units bytes)
GrowsAs units bytes (Err (Store NotAStore)) = FaultOf (session_units bytes) bytes NotAStore
GrowsAs units bytes (Err (Store Damaged)) = FaultOf (session_units bytes) bytes Damaged
GrowsAs units bytes (Err (Store Disk)) = Unit {0}
GrowsAs units bytes (Err (Store UsedUp)) = HasNoNext bytes
GrowsAs units bytes (Err (Store Memory)) = Unit {0}
