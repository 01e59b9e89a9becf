-- How many bytes of an input are read ahead.
use Rattle.std.specs.Prelude.{◌/◌, ℕ, max, min}
use Rattle.pk_join.specs.declared.lists.InputLists.{InputLists}
use Rattle.pk_join.specs.declared.lists.InputLists.TheVariants.{Stored, Indexed}

-- how many bytes are read at once of each of so many inputs: at most 32 KiB, and 1 MiB of all
abbrev pub share_ahead : ℕ → ℕ
share_ahead inputs = min 32768 (1048576 / max 1 inputs)

-- the same of this input: none where its lists are in memory
abbrev pub bytes_ahead : ℕ → InputLists → ℕ
bytes_ahead inputs (Stored words postings marks) = share_ahead inputs
bytes_ahead inputs (Indexed words marks) = 0
