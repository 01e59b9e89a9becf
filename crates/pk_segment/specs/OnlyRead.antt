-- It was only read: what a call leaves of a disk that it read.
use Rattle.std.specs.Prelude.{ℕ, Result}
use Rattle.pk_disk.specs.Frames.{KeepsDisk}
use Rattle.pk_disk.specs.declared.disk.Disk.{Ghosts}

-- What a call leaves of the disk that it read: all as it was, and a count of failed reads that goes
-- with the answer as `counts` says.
pub record ReadsDisk {D T E : Type 0} (d : Ghosts D) (counts : ℕ → ℕ → Result T E → Type 0)
    (result : Result T E) (old new : D) : Type 0 where
  pub keeps : KeepsDisk d old new
  pub reads : counts (d.failed_reads old) (d.failed_reads new) result
