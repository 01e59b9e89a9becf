-- A reader beside a writer: what the writer's commands leave, and what is shown of a moment among them.
use Rattle.std.specs.Prelude.{◌≡◌, ◌⊎◌, ◌≤◌, ◌+◌, ℕ, List, [], ◌∷◌, All}
use Rattle.pk_disk.specs.Units.{extent_bytes}
use Rattle.pk_manifest.specs.declared.half.Half.{Half}
use Rattle.pk_manifest.specs.Current.{HasBody}
use Rattle.pk_manifest.specs.Evolves.{Evolves, in_force}
use Rattle.pk_manifest.specs.Found.{IsFound}
use Rattle.pk_manifest.specs.Sound.{named}
use Rattle.pk_manifest.specs.Spelling.{Body}
use Rattle.pk_model.specs.Collection.{Collection}
use Rattle.pk_state.specs.Holds.{Holds}

-- What a command leaves: bytes, and the collection that they hold.
pub record Left : Type 0 where
  pub bytes : List ℕ
  pub collection : Collection

-- In a command the bytes evolve, and the generation in force rises by one at most.
pub record IsCommand (old new : List ℕ) : Type 0 where
  pub evolves : Evolves old new
  pub most : in_force new ≤ in_force old + 1

-- each command leaves bytes that hold its collection, and the next one begins with them
abbrev pub AreCommands : Left → List Left → Type 0
AreCommands first [] = Holds first.bytes first.collection
AreCommands first (next ∷ rest) =
    Holds first.bytes first.collection × (IsCommand first.bytes next.bytes × AreCommands next rest)

-- The bytes are of a moment in the course of a command.
pub record IsAmid (old bytes new : List ℕ) : Type 0 where
  pub since : Evolves old bytes
  pub until : Evolves bytes new

-- the bytes are of a moment in the course of one of the commands, or after the last one
abbrev pub IsMoment : Left → List Left → List ℕ → Type 0
IsMoment first [] bytes = bytes ≡ first.bytes
IsMoment first (next ∷ rest) bytes =
    IsAmid first.bytes bytes next.bytes ⊎ IsMoment next rest bytes

-- the image holds what one of the commands left
abbrev pub HoldsOneOf : Left → List Left → List ℕ → Type 0
HoldsOneOf first [] image = Holds image first.collection
HoldsOneOf first (next ∷ rest) image =
    Holds image first.collection ⊎ HoldsOneOf next rest image

-- The image shows a body of the bytes of a moment: it was behind an open gate there, it is in force
-- here, and what it names is the same.
pub record IsShot (bytes image : List ℕ) (half : Half) (generation : ℕ) (b : Body) : Type 0 where
  pub found : IsFound bytes half generation b
  pub has : HasBody image half b
  pub same : All (λ e. extent_bytes image e ≡ extent_bytes bytes e) (named b)
