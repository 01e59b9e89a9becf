-- What a session that only reads came to.
use Rattle.std.specs.Prelude.{◌≡◌, ◌≤◌, ◌⊎◌, ℕ, List, Option, Ok, Err}
use Rattle.pk_command.specs.Endings.{IsTold, done, failed}
use Rattle.pk_command.specs.Reasons.{file_words, opening_words, session_words}
use Rattle.pk_filedisk.specs.declared.fault.FileFault.TheVariants as file
use Rattle.pk_manifest.specs.Evolves.{in_force}
use Rattle.pk_reader.specs.declared.system.SharedFault.{SharedFault}
use Rattle.pk_reader.specs.declared.system.SharedFault.TheVariants as shared
use Rattle.pk_shell.specs.Asked.{Asked}
use Rattle.pk_shell.specs.Script.{EndsAs}
use Rattle.pk_shell.specs.declared.ending.Ended.{Ended}
use Rattle.pk_shell.specs.declared.ending.ShellFault.{ShellFault}
use Rattle.pk_store.specs.declared.refused.OpenFault.{OpenFault}
use Rattle.pk_store.specs.declared.refused.OpenFault.TheVariants as opening

-- what is told of a file that was not opened to be read
abbrev pub shared_words : SharedFault → List ℕ
shared_words shared.Missing = file_words file.Missing
shared_words shared.Disk = file_words file.Disk

-- of one in which there is no store to be read: of one that is too small, that its length is bad
abbrev pub reading_words : OpenFault → List ℕ
reading_words opening.TooSmall = file_words file.BadLength
reading_words opening.NotAStore = opening_words opening.NotAStore
reading_words opening.Damaged = opening_words opening.Damaged
reading_words opening.Disk = opening_words opening.Disk
reading_words opening.Memory = opening_words opening.Memory

abbrev pub IsReasonToReadNothing : List ℕ → Type 0
IsReasonToReadNothing line =
    ((fault : SharedFault) × (line ≡ shared_words fault))
    ⊎ ((fault : OpenFault) × (line ≡ reading_words fault))

-- A READER BEGINS over a file that was opened, by the bytes that it has: they are no older than those of
-- the opening, which are some that the file may have.
pub record IsBegun (honest : Type 0) (may_share : List ℕ → Type 0) (bytes : List ℕ) : Type 0 where
  pub opened : List ℕ
  pub shared : honest → may_share opened
  pub fresh : honest → in_force opened ≤ in_force bytes

-- A SESSION OF A READER: what was written is, as far as it came, a legal script's replies to what was
-- read; a failure is told in the words of its fault. Where there was no store to be read, a line tells
-- why, and nothing was read or written.
abbrev pub ReadOutcome : {S : Type 0} → (S → Asked → List ℕ → S → Type 0) → (S → Type 0)
    → Option (List ℕ) → Option (List ℕ) → Option (List ℕ) → Option (List ℕ) → Option (List ℕ)
    → Option (List ℕ) → ℕ → Type 0
ReadOutcome {S} Replies Begins r r' w w' e e' status =
    ((how : Ended) × (begun : S) × (left : S) × (status ≡ done) × (e' ≡ e) × Begins begun
    × EndsAs Replies begun r r' w w' (Ok how) left)
    ⊎ (((fault : ShellFault) × (begun : S) × (left : S) × (status ≡ failed)
    × IsTold e e' (session_words fault) × Begins begun
    × EndsAs Replies begun r r' w w' (Err fault) left)
    ⊎ ((line : List ℕ) × IsReasonToReadNothing line × (status ≡ failed) × IsTold e e' line
    × (r' ≡ r) × (w' ≡ w)))
