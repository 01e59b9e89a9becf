-- What a snapshot is of: the body that stands behind the gate of its half in the marked bytes.
use Rattle.std.specs.Prelude.{◌≡◌, ◌*◌, ◌++◌, ℕ, List}
use Rattle.pk_disk.specs.declared.units.Extent.{Extent}
use Rattle.pk_manifest.specs.declared.half.Half.{Half}
use Rattle.pk_manifest.specs.Evolves.{body_in}
use Rattle.pk_manifest.specs.Found.{IsFound}
use Rattle.pk_manifest.specs.Sound.{named}
use Rattle.pk_snapshot.specs.Order.{CoverAlike}
use Rattle.pk_snapshot.specs.Shown.{own_extents}

-- A snapshot of the bytes: as many of them as the body says, and the positions of what it names and
-- of its own places.
pub record IsSnapshot (bytes : List ℕ) (half : Half) (generation len : ℕ) (shown : List Extent)
    : Type 0 where
  pub found : IsFound bytes half generation (body_in bytes half)
  pub long : len ≡ 512 * (body_in bytes half).units
  pub names : CoverAlike shown (named (body_in bytes half) ++ own_extents half)
