-- What a call is for those who read the bytes beside it.
use Rattle.std.specs.Prelude.{◌≡◌, ◌⊎◌, ◌+◌, Bool, true, false, ℕ, List}
use Rattle.pk_manifest.specs.declared.half.Half.{Half}
use Rattle.pk_manifest.specs.Evolves.{in_force, stamp}
use Rattle.pk_state.specs.Beside.{IsCommand}

-- no generation was written in part: each is the one that was there, or one more than that in force
abbrev pub HaveWholeStamps : List ℕ → List ℕ → Type 0
HaveWholeStamps old new =
    (half : Half) → (stamp new half ≡ stamp old half) ⊎ (stamp new half ≡ in_force old + 1)

-- The bytes are a command's. Where the store has to be opened again, since a write or a sync
-- failed, they are if no generation was written in part.
abbrev pub IsCommandBy : Bool → List ℕ → List ℕ → Type 0
IsCommandBy false old new = IsCommand old new
IsCommandBy true old new = HaveWholeStamps old new → IsCommand old new
