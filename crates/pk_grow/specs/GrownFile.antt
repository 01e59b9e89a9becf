-- What a growth in a file comes to.
use Rattle.std.specs.Prelude.{◌≡◌, ◌+◌, ◌-◌, ◌*◌, ℕ, List, length, Result, OnOk}
use Rattle.pk_disk.specs.Disk.{nowhere}
use Rattle.pk_disk.specs.Since.{OnlyNew}
use Rattle.pk_filedisk.specs.declared.raw.RawFile.{Ghosts}
use Rattle.pk_grow.specs.declared.fault.GrowFault.{GrowFault}
use Rattle.pk_grow.specs.declared.fault.Growth.{Growth}
use Rattle.pk_grow.specs.Growth.{GrowsAs, HoldsStore, store_bytes}
use Rattle.pk_model.specs.Collection.{Collection}
use Rattle.pk_state.specs.Holds.{Holds}

-- the greater of two
abbrev pub greater : ℕ → ℕ → ℕ
greater a b = a + (b - a)

-- The store in a file of these bytes was to grow to so many units. At each moment the file has a
-- store that holds what it held, and as it is left; where it was grown, it has the units that were
-- asked for, the file is as long as these and no longer, unless it was before, and nothing is open.
pub record GrowsFile {F : Type 0} (f : Ghosts F) (bytes : List ℕ) (old new : F) (units : ℕ)
    (answer : Result Growth GrowFault) : Type 0 where
  pub any_moment : (c : Collection) → HoldsStore bytes c
      → OnlyNew f.moment f.images_since old new (λ image. HoldsStore image c)
  pub kept : (c : Collection) → HoldsStore bytes c → HoldsStore (f.content new) c
  pub done : (c : Collection) → HoldsStore bytes c
      → OnOk answer (Holds (store_bytes units (f.content new)) c)
  pub size : OnOk answer (length (f.content new) ≡ greater (length bytes) (512 * units))
  pub closed : OnOk answer (f.is_open new ≡ nowhere)
  pub answered : GrowsAs units bytes answer
