-- What a snapshot shows of a file's bytes.
use Rattle.std.specs.Prelude.{◌≡◌, ◌+◌, ◌==◌, ◌||◌, Bool, true, ℕ, zero, suc, List, [], ◌∷◌}
use Rattle.std.specs.Prelude.{All, if◌then◌else◌, length, slice_index, ◌*◌}
use Rattle.pk_disk.specs.declared.units.Extent.{Extent}
use Rattle.pk_disk.specs.Units.{extent_bytes}
use Rattle.pk_manifest.specs.declared.half.Half.{Half}
use Rattle.pk_manifest.specs.declared.half.Half.TheVariants.{A, B}
use Rattle.pk_manifest.specs.Bodies.{gate_place, has_open_gate}
use Rattle.pk_manifest.specs.Current.{HasBody}
use Rattle.pk_manifest.specs.Found.{IsFound}
use Rattle.pk_manifest.specs.Sound.{named}
use Rattle.pk_manifest.specs.Spelling.{Body}
use Rattle.pk_manifest.specs.Evolves.{covers, is_claimed, stamp}

-- n bytes from position p on: those of the extents, and zeros beside them
abbrev pub shown_from : ℕ → ℕ → List Extent → List ℕ → List ℕ
shown_from p zero shown bytes = []
shown_from p (suc n) shown bytes =
    (if covers shown p then slice_index bytes p else 0) ∷ shown_from (p + 1) n shown bytes

unfoldable pub shown_bytes : ℕ → List Extent → List ℕ → List ℕ
shown_bytes n shown bytes = shown_from 0 n shown bytes

-- the position is of the gate of a half, or of what this claims
abbrev pub is_of : List ℕ → Half → ℕ → Bool
is_of bytes half p = (p == gate_place half) || is_claimed bytes half p

-- What is shown is of the half.
abbrev pub IsShown : List ℕ → Half → List Extent → Type 0
IsShown bytes half shown = (p : ℕ) → covers shown p ≡ true → is_of bytes half p ≡ true

-- The gate of the half is open behind this generation.
pub record IsBegun (bytes : List ℕ) (half : Half) (generation : ℕ) : Type 0 where
  pub gate : has_open_gate bytes half ≡ true
  pub stamp_is : stamp bytes half ≡ generation

abbrev pub gate_extent : Half → Extent
gate_extent A = record { first = 0; units = 1; bytes = 1 }
gate_extent B = record { first = 1; units = 1; bytes = 1 }

abbrev pub body_extent : Half → Extent
body_extent A = record { first = 2; units = 16; bytes = 8192 }
body_extent B = record { first = 18; units = 16; bytes = 8192 }

-- a half's gate and body, as extents
abbrev pub own_extents : Half → List Extent
own_extents half = gate_extent half ∷ body_extent half ∷ []

-- The bytes are as many units as the body says that stands behind the gate of a half in those that are
-- shown. They have it in force, and what it names is as there.
pub record ShowsBody (shown content : List ℕ) (half : Half) (generation : ℕ) : Type 0 where
  pub body : Body
  pub generation_is : body.generation ≡ generation
  pub found : IsFound shown half generation body
  pub size : length content ≡ 512 * body.units
  pub has : HasBody content half body
  pub same : All (λ e. extent_bytes content e ≡ extent_bytes shown e) (named body)
