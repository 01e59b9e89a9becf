-- What reading has found in the tail.
use Rattle.std.specs.Prelude.{◌≡◌, ℕ, ◌^◌, ◌<◌, ◌≤◌, List, [], ◌∷◌, ◌++◌, length, drop}
use Rattle.pk_posting.specs.declared.decoding.DecodeFault.{DecodeFault}
use Rattle.pk_posting.specs.declared.decoding.DecodeFault.TheVariants.{Damaged, Memory}
use Rattle.pk_posting.specs.Posting.{tail_bytes, Spells}

-- numbers that rise from one before them
abbrev pub Climbs : ℕ → List ℕ → Type 0
Climbs before [] = Unit {0}
Climbs before (x ∷ xs) = (before < x) × (x < 2 ^ 32) × Climbs x xs

abbrev pub last_of : ℕ → List ℕ → ℕ
last_of before [] = before
last_of before (x ∷ xs) = last_of x xs

-- the bytes from a place on are n numbers that rise from one before them
pub record IsTail (bytes : List ℕ) (at before n : ℕ) (xs : List ℕ) : Type 0 where
  pub long : length xs ≡ n
  pub climbs : Climbs before xs
  pub spelled : drop at bytes ≡ tail_bytes before xs

-- what is left of ys after those that were read
pub record Left (bytes : List ℕ) (at here : ℕ) (done ys : List ℕ) : Type 0 where
  pub rest : List ℕ
  pub split : ys ≡ done ++ rest
  pub climbs : Climbs here rest
  pub bytes_left : drop at bytes ≡ tail_bytes here rest

-- i numbers of the tail were read
pub record TailTo (bytes : List ℕ) (start before n i at here : ℕ) (old out : List ℕ) : Type 0 where
  pub done : List ℕ
  pub out_is : out ≡ old ++ done
  pub long : length done ≡ i
  pub climbs : Climbs before done
  pub spelled : drop start bytes ≡ tail_bytes before done ++ drop at bytes
  pub here_is : here ≡ last_of before done
  pub room : at ≤ length bytes
  pub only : (ys : List ℕ) → IsTail bytes start before n ys → Left bytes at here done ys

-- the tail was read, or it is none
pub record TailRead (bytes : List ℕ) (start before n : ℕ) (old out : List ℕ) : Type 0 where
  pub done : List ℕ
  pub out_is : out ≡ old ++ done
  pub tail : IsTail bytes start before n done
  pub only : (ys : List ℕ) → IsTail bytes start before n ys → ys ≡ done

abbrev pub NoTail : List ℕ → ℕ → ℕ → ℕ → DecodeFault → Type 0
NoTail bytes start before n Damaged = (ys : List ℕ) → IsTail bytes start before n ys → ⊥
NoTail bytes start before n Memory = Unit {0}

abbrev pub NoList : List ℕ → DecodeFault → Type 0
NoList bytes Damaged = (xs : List ℕ) → Spells bytes xs → ⊥
NoList bytes Memory = Unit {0}
