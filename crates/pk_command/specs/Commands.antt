-- What a command line came to, over any disk and any file.
use Rattle.std.specs.Prelude.{◌≡◌, ◌⊎◌, ℕ, List, Option}
use Rattle.pk_arguments.specs.CommandLine.{WordsAsk}
use Rattle.pk_arguments.specs.Sizes.{HasSize}
use Rattle.pk_arguments.specs.declared.asked.Asked.{Asked}
use Rattle.pk_arguments.specs.declared.asked.Asked.TheVariants.{Check, Create, Grow, Read, Run}
use Rattle.pk_disk.specs.declared.disk.Disk.{Ghosts}
use Rattle.pk_filedisk.specs.declared.raw.RawFile as raw
use Rattle.pk_command.specs.Endings.{FileCheckOutcome, FileCreationOutcome, FileGrowthOutcome}
use Rattle.pk_command.specs.Endings.{FileSessionOutcome, NoCommandOutcome}
use Rattle.pk_command.specs.Reading.{ReadOutcome}
use Rattle.pk_command.specs.declared.left.Left.{Left}
use Rattle.pk_command.specs.declared.left.Left.TheVariants.{Nothing}
use Rattle.pk_shell.specs.Asked.{Asked as Line}

-- A command that was asked for came to this, by the disk in a file, which a creation writes and a
-- growth lengthens, the disk over it that shows a store, which a check reads, the disk that a session
-- is on, the file, and a reader, its replies and how it begins at a path; it leaves no file in hand.
abbrev pub CarriedOut : {C S D F T : Type 0} → Ghosts C → Ghosts S → Ghosts D → raw.Ghosts F
    → (S → C) → (D → C) → (C → F) → (List ℕ → List ℕ → Type 0)
    → (T → Line → List ℕ → T → Type 0) → (List ℕ → T → Type 0) → Asked → Option (List ℕ)
    → Option (List ℕ) → Option (List ℕ) → Option (List ℕ) → Option (List ℕ) → Option (List ℕ) → ℕ
    → Left F C → Type 0
CarriedOut c s d f shown below file_of may_hold Replies Begins (Create path units) r r' w w' e e' status left =
    (r' ≡ r) × FileCreationOutcome c f file_of path.now units w w' e e' status left
CarriedOut c s d f shown below file_of may_hold Replies Begins (Grow path units) r r' w w' e e' status left =
    (r' ≡ r) × FileGrowthOutcome c f file_of (may_hold path.now) path.now units w w' e e' status left
CarriedOut c s d f shown below file_of may_hold Replies Begins (Run path) r r' w w' e e' status left =
    FileSessionOutcome c d f below file_of (may_hold path.now) path.now r r' w w' e e' status left
CarriedOut c s d f shown below file_of may_hold Replies Begins (Read path) r r' w w' e e' status left =
    (left ≡ Nothing) × ReadOutcome Replies (Begins path.now) r r' w w' e e' status
CarriedOut c s d f shown below file_of may_hold Replies Begins (Check path) r r' w w' e e' status left =
    (r' ≡ r) × FileCheckOutcome c s f shown file_of (may_hold path.now) path.now w w' e e' status left

-- WHAT A COMMAND LINE CAME TO: what its words ask for was carried out, or no command was, and then no
-- file is in hand.
abbrev pub CommandOutcome : {C S D F T : Type 0} → Ghosts C → Ghosts S → Ghosts D → raw.Ghosts F
    → (S → C) → (D → C) → (C → F) → (List ℕ → List ℕ → Type 0)
    → (T → Line → List ℕ → T → Type 0) → (List ℕ → T → Type 0) → List (List ℕ) → Option (List ℕ)
    → Option (List ℕ) → Option (List ℕ) → Option (List ℕ) → Option (List ℕ) → Option (List ℕ) → ℕ
    → Left F C → Type 0
CommandOutcome c s d f shown below file_of may_hold Replies Begins words r r' w w' e e' status left =
    ((asked : Asked) × WordsAsk words asked × HasSize asked
    × CarriedOut c s d f shown below file_of may_hold Replies Begins asked r r' w w' e e' status left)
    ⊎ ((left ≡ Nothing) × NoCommandOutcome words r r' w w' e e' status)
