-- A generation that was seen, whatever the gate was.
use Rattle.std.specs.Prelude.{◌≡◌, ℕ, List}
use Rattle.pk_manifest.specs.declared.half.Half.{Half}
use Rattle.pk_manifest.specs.Evolves.{Evolves, stamp}

-- The body of a half said this generation at a moment between two.
pub record SawStamp (old new : List ℕ) (half : Half) (generation : ℕ) : Type 0 where
  pub moment : List ℕ
  pub since : Evolves old moment
  pub until : Evolves moment new
  pub stamp_is : stamp moment half ≡ generation
