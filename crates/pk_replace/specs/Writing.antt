-- The frame of a writer: its positions alone are open in its course, and they alone change.
use Rattle.std.specs.Prelude.{◌≡◌, Bool, ℕ, length}
use Rattle.pk_disk.specs.declared.disk.Disk.{Ghosts}
use Rattle.pk_disk.specs.Disk.{IsChangedOnly, IsImage, also}
use Rattle.pk_disk.specs.Since.{OnlyNew}

-- Only the touched positions are written, whatever is answered; on every disk the size stays.
pub record WritesOnly {D : Type 0} (d : Ghosts D) (touched : ℕ → Bool) (old new : D) : Type 0 where
  pub images : d.honest → OnlyNew d.moment d.images_since old new
      (IsImage (d.content old) (also (d.is_open old) touched))
  pub changed : d.honest → IsChangedOnly (d.content old) (d.is_open old) touched
      (d.content new) (d.is_open new)
  pub size : length (d.content new) ≡ length (d.content old)
