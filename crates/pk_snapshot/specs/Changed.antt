-- That a file changed between what was confirmed of it and what was seen then.
use Rattle.std.specs.Prelude.{ℕ, List}
use Rattle.pk_manifest.specs.declared.half.Half.{Half}
use Rattle.pk_snapshot.specs.Shared.{Confirms, SawOther}

-- A body was confirmed, and then another one was seen in its half, or its gate as shut.
pub record SawChange (old new : List ℕ) : Type 0 where
  pub half : Half
  pub generation : ℕ
  pub moment : List ℕ
  pub confirmed : Confirms old moment half generation
  pub other : SawOther moment new half generation
