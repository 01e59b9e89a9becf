-- What a program that writes a store does to its bytes, a move at a time: as small ones as a reader
-- sees, of a byte or of the eight of a generation.
use Rattle.std.specs.Prelude.{◌≡◌, ◌⊎◌, ◌<◌, ◌≤◌, ◌+◌, true, false, ℕ, zero, suc, List, length}
use Rattle.std.specs.Prelude.{Some, None, slice_index}
use Rattle.pk_manifest.specs.declared.half.Half.{Half}
use Rattle.pk_manifest.specs.Bodies.{gate_place, half_in_force, has_open_gate, other}
use Rattle.pk_manifest.specs.Evolves.{AreTold, is_claimed, is_of, stamp}

-- The gate of the spare half is written, and nothing else; it isn't opened.
pub record IsShutting (spare : Half) (old new : List ℕ) : Type 0 where
  pub size : length new ≡ length old
  pub forced : half_in_force old ≡ Some (other spare)
  pub apart : is_claimed old (other spare) (gate_place spare) ≡ false
  pub only : (p : ℕ) → (p ≡ gate_place spare → ⊥) → slice_index new p ≡ slice_index old p
  pub shuts : has_open_gate new spare ≡ true → has_open_gate old spare ≡ true

-- Behind the shut gate of the spare half all may be written but what the other half claims. The
-- generation of the spare body stays, or becomes the next one.
pub record IsPreparing (spare : Half) (old new : List ℕ) : Type 0 where
  pub size : length new ≡ length old
  pub forced : half_in_force old ≡ Some (other spare)
  pub shut : has_open_gate old spare ≡ false
  pub still : has_open_gate new spare ≡ false
  pub keeps : (p : ℕ) → is_of old (other spare) p ≡ true → slice_index new p ≡ slice_index old p
  pub next : (stamp new spare ≡ stamp old spare) ⊎ (stamp new spare ≡ stamp old (other spare) + 1)

-- The gate of the spare half is written over a body of a greater generation, and nothing else.
pub record IsOpening (spare : Half) (old new : List ℕ) : Type 0 where
  pub size : length new ≡ length old
  pub forced : half_in_force old ≡ Some (other spare)
  pub shut : has_open_gate old spare ≡ false
  pub apart : is_claimed old (other spare) (gate_place spare) ≡ false
  pub only : (p : ℕ) → (p ≡ gate_place spare → ⊥) → slice_index new p ≡ slice_index old p
  pub greater : stamp old (other spare) < stamp old spare

-- Where both gates are shut all may be written; a gate opens over a generation of at least 1, and a
-- generation becomes 1; not both gates open over one.
pub record IsMaking (old new : List ℕ) : Type 0 where
  pub size : length new ≡ length old
  pub none : half_in_force old ≡ None
  pub first : (half : Half) → (stamp new half ≡ stamp old half) ⊎ (stamp new half ≡ 1)
  pub opened : (half : Half) → has_open_gate new half ≡ true → 1 ≤ stamp new half
  pub told : AreTold new

abbrev pub IsMove : List ℕ → List ℕ → Type 0
IsMove old new =
    ((spare : Half) × IsShutting spare old new)
    ⊎ (((spare : Half) × IsPreparing spare old new)
    ⊎ (((spare : Half) × IsOpening spare old new) ⊎ IsMaking old new))

-- so many moves
abbrev pub Moves : ℕ → List ℕ → List ℕ → Type 0
Moves zero old new = new ≡ old
Moves (suc n) old new = (mid : List ℕ) × IsMove old mid × Moves n mid new
