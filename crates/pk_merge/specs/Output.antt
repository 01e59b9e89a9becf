-- Bytes that are given to be written one after another, to a stretch of a disk.
use Rattle.std.specs.Prelude.{◌≡◌, ◌⊎◌, ◌≤◌, ◌+◌, ◌-◌, ◌++◌, ℕ, Bool, List, length, take, drop, Result, OnOk}
use Rattle.pk_disk.specs.declared.disk.Disk.{Ghosts}
use Rattle.pk_disk.specs.Disk.{in_range}
use Rattle.pk_disk.specs.Units.{start_of}
use Rattle.pk_join.specs.declared.input.MergeInput.{MergeInput}
use Rattle.pk_merge.specs.declared.output.Output.{Output}
use Rattle.pk_replace.specs.declared.stream.StreamFault.{StreamFault}
use Rattle.pk_replace.specs.Cause.{IsCause, IsUndamaged}
use Rattle.pk_replace.specs.Writing.{WritesOnly}

-- the positions of the stretch
abbrev pub places_of : Output → ℕ → Bool
places_of o = in_range o.start (o.end - o.start)

-- how many bytes were given
abbrev pub count_given : Output → ℕ
count_given o = o.at - o.start + o.filled

-- the bytes that were given: those that are written on a disk of these bytes, and those that are
-- held
abbrev pub given : List ℕ → Output → List ℕ
given bytes o = take (o.at - o.start) (drop o.start bytes) ++ take o.filled o.buffer.items

-- nothing was given to an output yet, to the stretch from start to end
pub record IsFresh (start end : ℕ) (o : Output) : Type 0 where
  pub start_is : o.start ≡ start
  pub end_is : o.end ≡ end
  pub at_is : o.at ≡ start
  pub none_held : o.filled ≡ 0

-- it is the output to the same stretch
pub record IsSameStretch (old new : Output) : Type 0 where
  pub start : new.start ≡ old.start
  pub end : new.end ≡ old.end

-- The bytes were given, and of the disk only the stretch was written: after Ok all of them were. No
-- damage was met, and the answer tells what failed.
pub record IsWritten {D T : Type 0} (d : Ghosts D) (before after : D) (old new : Output)
    (bytes : List ℕ) (result : Result T StreamFault) : Type 0 where
  pub stretch : IsSameStretch old new
  pub writes : WritesOnly d (places_of old) before after
  pub count : OnOk result (new.at + new.filled ≡ old.at + old.filled + length bytes)
  pub given_are : d.honest → OnOk result
      (given (d.content after) new ≡ given (d.content before) old ++ bytes)
  pub buffer : length new.buffer.items ≡ length old.buffer.items
  pub undamaged : IsUndamaged result
  pub cause : IsCause d before after result

-- Some bytes were given, and of the disk only the stretch was written. The answer tells what failed.
pub record IsGiven {D T : Type 0} (d : Ghosts D) (before after : D) (old new : Output)
    (result : Result T StreamFault) : Type 0 where
  pub stretch : IsSameStretch old new
  pub writes : WritesOnly d (places_of old) before after
  pub buffer : length new.buffer.items ≡ length old.buffer.items
  pub cause : IsCause d before after result

-- These are the bytes, and no damage was met.
pub record AreGiven {D T : Type 0} (d : Ghosts D) (before after : D) (old new : Output)
    (bytes : List ℕ) (result : Result T StreamFault) : Type 0 where
  pub count : OnOk result (new.at + new.filled ≡ old.at + old.filled + length bytes)
  pub given_are : OnOk result
      (given (d.content after) new ≡ given (d.content before) old ++ bytes)
  pub undamaged : IsUndamaged result

-- an input's extent has no position of a stretch
abbrev pub LiesApart : ℕ → ℕ → MergeInput → Type 0
LiesApart start end i =
    (start_of i.extent + i.extent.bytes ≤ start) ⊎ (end ≤ start_of i.extent)
