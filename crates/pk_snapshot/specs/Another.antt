-- That another body than this was seen, or one that is greater behind the other gate.
use Rattle.std.specs.Prelude.{◌≡◌, ◌⊎◌, ◌<◌, ℕ, List}
use Rattle.pk_manifest.specs.declared.half.Half.{Half}
use Rattle.pk_manifest.specs.Bodies.{other}
use Rattle.pk_snapshot.specs.Seen.{SawStamp}
use Rattle.pk_snapshot.specs.Shared.{Confirms, SawOther}

-- The body of a half said a greater generation, and after that its gate read as open.
pub record SawGreater (old new : List ℕ) (half : Half) (generation : ℕ) : Type 0 where
  pub seen : ℕ
  pub greater : generation < seen
  pub moment : List ℕ
  pub stamp : SawStamp old moment half seen
  pub behind : ℕ
  pub gate : Confirms moment new half behind

-- Something else was seen than the body of a half behind this generation: another generation in its
-- half, its gate as shut, or a greater generation behind the gate of the other half.
abbrev pub SawAnother : List ℕ → List ℕ → Half → ℕ → Type 0
SawAnother old new half generation =
    ((seen : ℕ) × (seen ≡ generation → ⊥) × SawStamp old new half seen)
    ⊎ (SawOther old new half generation ⊎ SawGreater old new (other half) generation)
