-- What a read of a file tells that changes meanwhile.
use Rattle.std.specs.Prelude.{◌≡◌, ◌⊎◌, ◌≤◌, ◌<◌, ◌+◌, true, false, ℕ, List, length, take, drop}
use Rattle.std.specs.Prelude.{slice_index}
use Rattle.pk_disk.specs.declared.units.Extent.{Extent}
use Rattle.pk_manifest.specs.declared.half.Half.{Half}
use Rattle.pk_manifest.specs.Bodies.{has_open_gate, other}
use Rattle.pk_manifest.specs.Evolves.{Evolves, covers, is_in, stamp}

-- The byte stood at its position at a moment between two.
pub record SeenAt (old new : List ℕ) (p byte : ℕ) : Type 0 where
  pub moment : List ℕ
  pub since : Evolves old moment
  pub until : Evolves moment new
  pub is : byte ≡ slice_index moment p

-- Each of the first n bytes stood at its position at a moment of its own.
abbrev pub AreSeen : List ℕ → List ℕ → ℕ → ℕ → List ℕ → Type 0
AreSeen old new at n out = (i : ℕ) → i < n → SeenAt old new (at + i) (slice_index out i)

-- The bytes stood at their positions at one moment between two.
pub record SeenAtOnce (old new : List ℕ) (at : ℕ) (out : List ℕ) : Type 0 where
  pub moment : List ℕ
  pub since : Evolves old moment
  pub until : Evolves moment new
  pub are : out ≡ take (length out) (drop at moment)

-- A gate read as open, and after it the generation behind it as this.
pub record Confirms (old new : List ℕ) (half : Half) (generation : ℕ) : Type 0 where
  pub gate_at : List ℕ
  pub stamp_at : List ℕ
  pub since : Evolves old gate_at
  pub between : Evolves gate_at stamp_at
  pub until : Evolves stamp_at new
  pub gate : has_open_gate gate_at half ≡ true
  pub stamp_is : stamp stamp_at half ≡ generation

-- The bytes of the extents are seen, and there are zeros beside them.
abbrev pub IsFilled : List ℕ → List ℕ → List Extent → ℕ → List ℕ → Type 0
IsFilled old new shown at out = (i : ℕ) → i < length out
    → (covers shown (at + i) ≡ true → SeenAt old new (at + i) (slice_index out i))
    × (covers shown (at + i) ≡ false → slice_index out i ≡ 0)

-- The bytes of an extent are seen, and those beside it stay.
abbrev pub IsPartFilled : List ℕ → List ℕ → Extent → ℕ → List ℕ → List ℕ → Type 0
IsPartFilled old new extent at out out' = (i : ℕ) → i < length out
    → (is_in (at + i) extent ≡ true → SeenAt old new (at + i) (slice_index out' i))
    × (is_in (at + i) extent ≡ false → slice_index out' i ≡ slice_index out i)

-- A gate read as shut.
pub record SawShut (old new : List ℕ) (half : Half) : Type 0 where
  pub moment : List ℕ
  pub since : Evolves old moment
  pub until : Evolves moment new
  pub shut : has_open_gate moment half ≡ false

-- Another generation than this was seen: its gate read as shut, or behind it is another one.
abbrev pub SawOther : List ℕ → List ℕ → Half → ℕ → Type 0
SawOther old new half generation =
    SawShut old new half
    ⊎ ((seen : ℕ) × (seen ≡ generation → ⊥) × Confirms old new half seen)

-- A half that is no newer was seen: its gate was shut, or behind it no greater generation.
pub record SawNoGreater (old new : List ℕ) (half : Half) (generation : ℕ) : Type 0 where
  pub seen : ℕ
  pub most : seen ≤ generation
  pub confirms : Confirms old new half seen

-- A half was chosen by a look at both: its gate read as open, and the other half as no newer.
pub record IsChosen (old new : List ℕ) (half : Half) (generation : ℕ) : Type 0 where
  pub confirms : Confirms old new half generation
  pub beside : SawShut old new (other half) ⊎ SawNoGreater old new (other half) generation
