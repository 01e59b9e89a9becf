-- Where a cursor stands in a list.
use Rattle.std.specs.Prelude.{◌≡◌, ◌≤◌, ◌<◌, ◌+◌, ◌-◌, ◌*◌, ℕ, List, length, min, slice_index}
use Rattle.std.specs.Prelude.{Option, None, Some, Result, Ok, Err, IsOk, IfErr, IfSome}
use Rattle.std.specs.Prelude.{◌%◌, nat_lt, if◌then◌else◌}
use Rattle.pk_posting.specs.declared.source.ByteSource.{Ghosts}
use Rattle.pk_posting.specs.declared.source.SourceFault.{SourceFault}
use Rattle.pk_posting.specs.Frames.{IsRead}
use Rattle.pk_posting.specs.Source.{full_count}
use Rattle.pk_posting.specs.declared.fields.Shape.{Shape}
use Rattle.pk_posting.specs.Parts.{HasShape}
use Rattle.pk_cursor.specs.Seeking.{Between, IsFirst}
use Rattle.pk_cursor.specs.declared.standing.Standing.{Standing}

-- how many numbers a block of a list of such a shape has: the one after the last is the tail
abbrev pub count_in : Shape → ℕ → ℕ
count_in shape block = if nat_lt block shape.blocks then 128 else shape.count % 128

-- the bytes spell the list xs, and here is its index n: the numbers that are held are those of its
-- block, or of the tail
pub record StandsAt (bytes : List ℕ) (standing : Standing) (xs : List ℕ) (n : ℕ) : Type 0 where
  pub shape : HasShape bytes standing.shape xs
  pub sound : standing.fault ≡ None
  pub index : n ≡ 128 * standing.block + standing.at
  pub count : standing.held ≡ min 128 (length xs - 128 * standing.block)
  pub numbers : (i : ℕ) → i < standing.held
      → slice_index standing.numbers i ≡ slice_index xs (128 * standing.block + i)
  pub inside : standing.block < standing.shape.blocks → standing.at < 128

-- at the first index of the list from n on whose number is at least the target, or the end
pub record IsSought (bytes : List ℕ) (standing : Standing) (xs : List ℕ) (n target : ℕ) : Type 0 where
  pub index : ℕ
  pub stands : StandsAt bytes standing xs index
  pub first : IsFirst xs n target index

-- at the start of the first block after one that doesn't end below the target
pub record IsLeapt (bytes : List ℕ) (standing : Standing) (xs : List ℕ) (target : ℕ) : Type 0 where
  pub stands : StandsAt bytes standing xs (128 * standing.block)
  pub between : Between xs standing.shape.blocks target (standing.block - 1) standing.block

-- a move counts one block as decoded where it goes to another whole block, and none where it stays,
-- goes to the tail or fails
pub record CountsDecoded {T : Type 0} (result : Result T SourceFault) (old new : Standing) : Type 0 where
  pub most : new.decoded ≤ old.decoded + 1
  pub on : IsOk result → old.block < new.block → new.block < new.shape.blocks
      → new.decoded ≡ min (old.decoded + 1) full_count
  pub tail : new.block ≡ new.shape.blocks → new.decoded ≡ old.decoded
  pub stays : IsOk result → new.block ≡ old.block → new.decoded ≡ old.decoded

-- what a move leaves: it asks at most `most` times, keeps a fault that it met, and after an earlier
-- fault answers that one and asks nothing; after a move that went on there is no fault
pub record IsMoved {S T : Type 0} (s : Ghosts S) (most : ℕ) (result : Result T SourceFault)
    (old new : Standing) (before after : S) : Type 0 where
  pub place : new.place ≡ old.place
  pub decoded : CountsDecoded result old new
  pub faults : IfErr result (λ e. new.fault ≡ Some e)
  pub sound : IsOk result → new.fault ≡ None
  pub repeats : IfSome old.fault (λ e. (result ≡ Err e) × (after ≡ before))
  pub left : old.fault ≡ None → IsRead s most result before after

-- a fault that is kept, as the answer of the call that met it
abbrev pub outcome : Option SourceFault → Result ℕ SourceFault
outcome None = Ok 0
outcome (Some fault) = Err fault
