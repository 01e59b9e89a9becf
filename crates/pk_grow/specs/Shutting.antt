-- A file that gets longer, and the spare gate of its store, which is shut by that.
use Rattle.std.specs.Prelude.{Bool, true, false, ℕ, List, [], ◌∷◌, length}
use Rattle.pk_disk.specs.Disk.{in_range}
use Rattle.pk_disk.specs.Since.{OnlyNew}
use Rattle.pk_filedisk.specs.declared.raw.RawFile.{Ghosts}
use Rattle.pk_filedisk.specs.Raw.{IsExtended}
use Rattle.pk_manifest.specs.declared.half.Half.{Half}
use Rattle.pk_manifest.specs.Bodies.{gate_place, has_open_gate}

-- the bytes that shut a gate, by whether it is open: over a shut one none, since a crash in that write
-- could open it
abbrev pub shutting : Bool → List ℕ
shutting true = 0 ∷ []
shutting false = []

-- the positions that this write opens: the gate, where it reads as open
abbrev pub shut_places : List ℕ → Half → ℕ → Bool
shut_places bytes half = in_range (gate_place half) (length (shutting (has_open_gate bytes half)))

-- A file whose disk had these bytes gets longer while a gate is shut: it is left with the same bytes,
-- but for the gate where that was open, and any behind them; so is each image.
pub record GetsLonger {F : Type 0} (f : Ghosts F) (bytes : List ℕ) (spare : Half) (old new : F)
    (left : List ℕ) : Type 0 where
  pub start : IsExtended bytes (shut_places bytes spare) left
  pub images : OnlyNew f.moment f.images_since old new
      (IsExtended bytes (shut_places bytes spare))
