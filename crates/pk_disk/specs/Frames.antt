-- What calls leave of a disk as it was, in one word each.
use Rattle.std.specs.Prelude.{◌≡◌, length}
use Rattle.pk_disk.specs.declared.disk.Disk.{Ghosts}
use Rattle.pk_disk.specs.Since.{IsOnlyRead}

-- The disk was only read: an honest one holds what it held, and on every disk its size and its
-- count of failed writes are as before.
pub record KeepsDisk {D : Type 0} (d : Ghosts D) (old new : D) : Type 0 where
  pub read : d.honest → IsOnlyRead d.content d.is_open d.moment d.images_since old new
  pub size : length (d.content new) ≡ length (d.content old)
  pub writes : d.failed_writes new ≡ d.failed_writes old

-- The disk may have been written: on every disk its size and its count of failed reads are as
-- before.
pub record KeepsReads {D : Type 0} (d : Ghosts D) (old new : D) : Type 0 where
  pub size : length (d.content new) ≡ length (d.content old)
  pub reads : d.failed_reads new ≡ d.failed_reads old
