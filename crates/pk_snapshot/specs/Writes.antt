-- What a refused write leaves of a disk that is only read: the first position of its range is open.
use Rattle.std.specs.Prelude.{◌==◌, Bool, false, ℕ, Option, None, Some}
use Rattle.pk_disk.specs.Disk.{full_count}

-- the open positions, by where the first write begins that was refused
abbrev pub open_at : Option ℕ → ℕ → Bool
open_at None p = false
open_at (Some at) p = p == at

-- how many writes and syncs failed: as many as are counted, from that write on
abbrev pub failed_by : Option ℕ → ℕ
failed_by None = 0
failed_by (Some at) = full_count
