-- A sound body behind an open gate.
use Rattle.std.specs.Prelude.{◌≡◌, ◌≤◌, true, ℕ, List}
use Rattle.pk_disk.specs.Sizes.{least_units}
use Rattle.pk_manifest.specs.declared.half.Half.{Half}
use Rattle.pk_manifest.specs.Bodies.{body_of, has_open_gate}
use Rattle.pk_manifest.specs.Current.{IsTabled, units_of_disk}
use Rattle.pk_manifest.specs.Evolves.{stamp}
use Rattle.pk_manifest.specs.Sound.{IsBody}
use Rattle.pk_manifest.specs.Spelling.{Body, spelling}

-- The gate of the half is open behind this generation, and this body stands there, with its table. It
-- is sound for the units that it says: as many as a store may have, and no more than there are.
pub record IsFound (bytes : List ℕ) (half : Half) (generation : ℕ) (body : Body) : Type 0 where
  pub gate : has_open_gate bytes half ≡ true
  pub stamp_is : stamp bytes half ≡ generation
  pub spelled : body_of bytes half ≡ spelling body
  pub tabled : IsTabled bytes body
  pub sound : IsBody body.units body
  pub least : least_units ≤ body.units
  pub within : body.units ≤ units_of_disk bytes
