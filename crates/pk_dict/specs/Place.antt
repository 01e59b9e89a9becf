-- A dictionary in the midst of a source's bytes.
use Rattle.std.specs.Prelude.{◌+◌, ◌≤◌, ◌<◌, ◌^◌, ℕ, List, take, drop}
use Rattle.pk_dict.specs.declared.entry.DictPlace.{DictPlace}

-- the dictionary's own bytes
unfoldable pub bytes_at : List ℕ → DictPlace → List ℕ
bytes_at content place = take place.bytes (drop place.at content)

-- the dictionary lies within a source of so many bytes, which a u32 counts
abbrev pub LiesIn : DictPlace → ℕ → Type 0
LiesIn place size = (place.at + place.bytes ≤ size) × (size < 2 ^ 32)
