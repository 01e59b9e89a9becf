-- Where the inputs of a walk lie apart from what is written.
use Rattle.std.specs.Prelude.{◌⊎◌, ◌≤◌, ◌+◌, ℕ, All}
use Rattle.pk_disk.specs.Units.{start_of}
use Rattle.pk_join.specs.declared.walk.Walk.{Walk}
use Rattle.pk_join.specs.declared.walk_input.Input.{Input}

-- an input's extent has no position of a stretch
abbrev pub IsApart : ℕ → ℕ → Input → Type 0
IsApart start end i = (start_of i.extent + i.extent.bytes ≤ start) ⊎ (end ≤ start_of i.extent)

-- nor has that of any input of a walk
abbrev pub WalksApart : ℕ → ℕ → Walk → Type 0
WalksApart start end walk = All (IsApart start end) walk.inputs.items
