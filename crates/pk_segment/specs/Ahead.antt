-- Bytes of an extent that were read ahead.
use Rattle.std.specs.Prelude.{◌≡◌, ◌≤◌, ◌<◌, ◌+◌, ◌-◌, ℕ, List, length, min, take, drop}
use Rattle.std.specs.Prelude.{Result, IsOk, IsErrOf, OnOk}
use Rattle.pk_posting.specs.declared.source.SourceFault.{SourceFault}
use Rattle.pk_posting.specs.declared.source.SourceFault.TheVariants.{Disk}
use Rattle.pk_segment.specs.declared.ahead.Ahead.{Ahead}

-- for how many bytes there is room
abbrev pub ahead_room : Ahead → ℕ
ahead_room a = length a.buffer.items

-- nothing is held
abbrev pub HoldsNone : Ahead → Type 0
HoldsNone a = a.held ≡ 0

-- the n bytes from a place on are held
pub record HasBytes (at n : ℕ) (a : Ahead) : Type 0 where
  pub from : a.at ≤ at
  pub to : at + n ≤ a.at + a.held

-- bytes are held, and the n bytes from a place on are among them
pub record IsHit (at n : ℕ) (a : Ahead) : Type 0 where
  pub some : 0 < a.held
  pub has : HasBytes at n a

-- what a call that wanted the n bytes at a place of an extent of so many bytes leaves of what is
-- held of it, and of the disk
pub record IsAskedAhead {D T : Type 0} (at n size : ℕ) (disk : D) (a : Ahead)
    (result : Result T SourceFault) (disk_now : D) (a_now : Ahead) : Type 0 where
  -- what it holds it keeps, and touches no disk
  pub hit : IsHit at n a → at + n ≤ size → IsOk result × (disk_now ≡ disk) × (a_now ≡ a)
  -- past the end nothing is read
  pub past : size < at + n → (disk_now ≡ disk) × (a_now ≡ a)
  -- anything else it reads, and as much as there is room for, and holds that from then on
  pub other : (IsHit at n a → ⊥)
      → OnOk result ((a_now.at ≡ at) × (a_now.held ≡ min (ahead_room a) (size - at)))
  -- after a read that failed it holds nothing
  pub none : IsErrOf result Disk → HoldsNone a_now

-- what is held stands there in these bytes
pub record HoldsOf (bytes : List ℕ) (a : Ahead) : Type 0 where
  pub value : take a.held a.buffer.items ≡ take a.held (drop a.at bytes)
