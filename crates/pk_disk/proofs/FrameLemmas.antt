-- Runs of calls leave of a disk what each of them leaves.
use Rattle.std.proofs.Common.{◌∙◌, refl}
use Rattle.pk_disk.specs.declared.disk.Disk.{Ghosts}
use Rattle.pk_disk.specs.Frames.{KeepsDisk, KeepsReads}
use Rattle.pk_disk.proofs.Reading.{read_none, read_then}

-- no call keeps it
pub keeps_disk_none : {D : Type 0} (d : Ghosts D) (disk : D) → KeepsDisk d disk disk
keeps_disk_none d disk = record {
  read = λ h. read_none d.content d.is_open d.moment d.images_since disk;
  size = refl;
  writes = refl;
}

-- two runs of calls keep it as each does
pub keeps_disk_then : {D : Type 0} (d : Ghosts D) (old mid new : D)
    → KeepsDisk d old mid → KeepsDisk d mid new → KeepsDisk d old new
keeps_disk_then d old mid new one two = record {
  read = λ h.
      read_then d.content d.is_open d.moment d.images_since old mid new (one.read h) (two.read h);
  size = two.size ∙ one.size;
  writes = two.writes ∙ one.writes;
}

-- two runs of calls keep the reads as each does
pub keeps_reads_then : {D : Type 0} (d : Ghosts D) (old mid new : D)
    → KeepsReads d old mid → KeepsReads d mid new → KeepsReads d old new
keeps_reads_then d old mid new one two =
    record { size = two.size ∙ one.size; reads = two.reads ∙ one.reads }
