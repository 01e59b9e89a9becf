-- A copy of bytes from one place of a disk to another.
use Rattle.std.specs.Prelude.{◌≡◌, ◌⊎◌, ◌≤◌, ◌<◌, ◌+◌, ◌^◌, ℕ, List, length, slice_index}
use Rattle.std.specs.Prelude.{take, drop}
use Rattle.pk_disk.specs.declared.disk.Disk.{Ghosts}
use Rattle.pk_disk.specs.Disk.{in_range}
use Rattle.pk_manifest.specs.Bodies.{bodies_end}
use Rattle.pk_replace.specs.Cause.{NoneFailed}
use Rattle.pk_replace.specs.Claims.{Claim}
use Rattle.pk_replace.specs.Writing.{WritesOnly}

-- The n bytes from from on lie within a disk of so many bytes. So do those from to on, behind the
-- bodies; the two share no position.
pub record CanCopy (from to n size : ℕ) : Type 0 where
  pub source : from + n ≤ size
  pub target : to + n ≤ size
  pub low : from + n < 2 ^ 64
  pub high : to + n < 2 ^ 64
  pub behind : bodies_end ≤ to
  pub apart : (from + n ≤ to) ⊎ (to + n ≤ from)

-- the n bytes from to on are those that stood from from on
abbrev pub IsCopied : List ℕ → List ℕ → ℕ → ℕ → ℕ → Type 0
IsCopied bytes bytes' from to n =
    (k : ℕ) → k < n → slice_index bytes' (to + k) ≡ slice_index bytes (from + k)

-- So many of the n bytes are copied, and no other position was touched than the n from to on.
pub record IsCopying {D : Type 0} (d : Ghosts D) (from to n done : ℕ) (old new : D) : Type 0 where
  pub most : done ≤ n
  pub unfailed : NoneFailed d old new
  pub writes : WritesOnly d (in_range to n) old new
  pub copied : d.honest → IsCopied (d.content old) (d.content new) from to done

-- What a copy promises: the source stands behind the bodies, and the claim is its bytes there.
pub record PromisesCopy (from to n : ℕ) (bytes : List ℕ) (c : Claim) : Type 0 where
  pub behind : bodies_end ≤ from
  pub fits : from + n ≤ length bytes
  pub placed : c.at ≡ to
  pub spelled : c.bytes ≡ take n (drop from bytes)
