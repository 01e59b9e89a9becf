-- What a call leaves of the source that it read, in one word each.
use Rattle.std.specs.Prelude.{◌≡◌, ◌≤◌, ◌+◌, ℕ, length, Result}
use Rattle.pk_posting.specs.declared.source.ByteSource.{Ghosts}
use Rattle.pk_posting.specs.declared.source.SourceFault.{SourceFault}
use Rattle.pk_posting.specs.Source.{CountsFaults, IsAskedOnce}

-- An honest source keeps its bytes, each its size, what lies below stays as it was, and a count of
-- failures goes with the answer as `counts` says.
pub record ReadsSource {S T E : Type 0} (s : Ghosts S) (counts : ℕ → ℕ → Result T E → Type 0)
    (result : Result T E) (old new : S) : Type 0 where
  pub same : s.honest → s.content new ≡ s.content old
  pub size : length (s.content new) ≡ length (s.content old)
  pub kept : s.keeps old new
  pub faults : counts (s.failures old) (s.failures new) result

-- and it was asked at most `most` times
pub record IsRead {S T : Type 0} (s : Ghosts S) (most : ℕ) (result : Result T SourceFault)
    (old new : S) : Type 0 where
  pub read : ReadsSource s CountsFaults result old new
  pub open read use *
  pub asks : s.asked new ≤ s.asked old + most

-- and it was asked once
abbrev pub AsksOnce : {S T : Type 0} → Ghosts S → Result T SourceFault → S → S → Type 0
AsksOnce s result old new =
    IsAskedOnce s.honest s.content s.asked s.failures s.keeps result old new
