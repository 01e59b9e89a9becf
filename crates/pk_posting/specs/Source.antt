-- What a call of `bytes` leaves of a source, and how a source counts its failures.
use Rattle.std.specs.Prelude.{◌≡◌, ◌≤◌, ◌<◌, ◌+◌, ◌-◌, ◌^◌, ◌⊎◌, ◌↔◌}
use Rattle.std.specs.Prelude.{ℕ, List, length, min, Result, IsOk, OnOk, IsErrOf}
use Rattle.pk_posting.specs.declared.source.SourceFault.{SourceFault}
use Rattle.pk_posting.specs.declared.source.SourceFault.TheVariants.{Damaged, Disk}

-- the greatest count: once there, it stays
abbrev pub full_count : ℕ
full_count = 2 ^ 64 - 1

-- a count of failures rose, or stands at its greatest
abbrev pub Rose : ℕ → ℕ → Type 0
Rose before now = (before < now) ⊎ (now ≡ full_count)

-- Disk is answered exactly where the count of failures rose; with any other answer it is as before
pub record CountsFaults {T : Type 0} (before now : ℕ) (result : Result T SourceFault) : Type 0 where
  pub later : before ≤ now
  pub ok : OnOk result (now ≡ before)
  pub damaged : IsErrOf result Damaged → now ≡ before
  pub disk : IsErrOf result Disk → Rose before now

-- what one call of `bytes` leaves of a source, once the loan of the bytes ends
pub record IsAskedOnce {S T : Type 0} (honest : Type 0) (content : S → List ℕ)
    (asked failures : S → ℕ) (keeps : S → S → Type 0) (result : Result T SourceFault)
    (old new : S) : Type 0 where
  pub same : honest → content new ≡ content old
  pub size : length (content new) ≡ length (content old)
  pub counted : asked new ≡ min (asked old + 1) full_count
  pub kept : keeps old new
  pub faults : CountsFaults (failures old) (failures new) result
  pub not_full : OnOk result (failures new < full_count)

-- what a call answers that wants the `n` bytes at a place of so many bytes: they are there, or it is
-- Damaged
pub record AnswersWithin {T : Type 0} (at n size : ℕ) (result : Result T SourceFault) : Type 0 where
  pub inside : IsOk result → at + n ≤ size
  pub damaged : IsErrOf result Damaged ↔ (size < at + n)
