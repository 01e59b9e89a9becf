-- That what was read was outdated, once and time after time.
use Rattle.std.specs.Prelude.{◌≡◌, ◌⊎◌, ℕ, zero, suc, List}
use Rattle.pk_manifest.specs.Evolves.{Evolves}
use Rattle.pk_reader.specs.Refused.{RefusedOpening}
use Rattle.pk_snapshot.specs.declared.fault.SnapshotFault.{SnapshotFault}
use Rattle.pk_snapshot.specs.declared.fault.SnapshotFault.TheVariants.{TooSmall, NotAStore, Changed, Damaged, Memory, Disk}

-- how often a file is opened for a question, or at first, before writers are kept away, and how often
-- it is tried to keep them away
abbrev pub most_openings : ℕ
most_openings = 8

abbrev pub most_holds : ℕ
most_holds = 100

-- how many milliseconds are waited after each of these
abbrev pub wait_millis : ℕ
wait_millis = 10

-- WHAT WAS READ WAS OUTDATED: both gates were seen shut, or a body was chosen or shown, and then another
-- was seen in its half, or its gate as shut.
abbrev pub IsOutdated : List ℕ → List ℕ → Type 0
IsOutdated asked now = (marked : List ℕ)
    × (RefusedOpening asked now marked NotAStore ⊎ RefusedOpening asked now marked Changed)

-- the same of bytes that are no earlier, at which this was so
abbrev pub WasOutdated : (List ℕ → Type 0) → List ℕ → List ℕ → Type 0
WasOutdated At first now =
    (asked : List ℕ) × Evolves first asked × At asked × IsOutdated asked now

-- SO MANY TIMES, one after the other
abbrev pub OutdatedTimes : (List ℕ → Type 0) → ℕ → List ℕ → List ℕ → Type 0
OutdatedTimes At zero first now = now ≡ first
OutdatedTimes At (suc n) first now =
    (mid : List ℕ) × OutdatedTimes At n first mid × WasOutdated At mid now

-- A READER GIVES UP: it tried eight times, and then a hundred times, each after writers were asked to
-- stay away, and waited meanwhile.
pub record GivesUp (Asked : List ℕ → Type 0) (first now : List ℕ) (Waited : Type 0) : Type 0 where
  pub mid : List ℕ
  pub beside : OutdatedTimes (λ bytes. Unit {0}) most_openings first mid
  pub held : OutdatedTimes Asked most_holds mid now
  pub waited : Waited

-- where a file was not shown for that reason
abbrev pub OnOutdated : SnapshotFault → Type 0 → Type 0
OnOutdated TooSmall P = Unit {0}
OnOutdated NotAStore P = P
OnOutdated Changed P = P
OnOutdated Damaged P = Unit {0}
OnOutdated Memory P = Unit {0}
OnOutdated Disk P = Unit {0}
