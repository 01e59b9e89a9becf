-- What a call wrote of the bytes, whatever it answered.
use Rattle.std.specs.Prelude.{◌≡◌, ◌⊎◌, Bool, false, ℕ, List, length, slice_index}
use Rattle.pk_disk.specs.Disk.{in_range, written}
use Rattle.pk_manifest.specs.declared.half.Half.{Half}
use Rattle.pk_manifest.specs.Bodies.{body_place, body_size, gate_place}

-- The bytes are as many, and differ at the touched positions alone.
pub record DiffersIn (touched : ℕ → Bool) (old new : List ℕ) : Type 0 where
  pub size : length new ≡ length old
  pub same : (p : ℕ) → touched p ≡ false → slice_index new p ≡ slice_index old p

-- What is left of a body that did not take force: any part of it was written, or all of it and then
-- the gate.
abbrev pub IsUnfinished : Half → List ℕ → List ℕ → List ℕ → Type 0
IsUnfinished spare body old new =
    DiffersIn (in_range (body_place spare) body_size) old new
    ⊎ DiffersIn (in_range (gate_place spare) 1) (written old (body_place spare) body) new
