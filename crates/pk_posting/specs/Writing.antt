-- How far writing has come.
use Rattle.std.specs.Prelude.{◌≡◌, ℕ, ◌+◌, ◌*◌, List, ◌++◌, length, take}
use Rattle.pk_posting.specs.Posting.{tail_bytes}
use Rattle.pk_posting.specs.Tails.{Climbs}
use Rattle.pk_posting.specs.Spelling.{entry, block_bytes, joined}

-- the skip entries and the pieces of the first k blocks are written
pub record BlocksPut (xs : List ℕ) (k at : ℕ) (old_head head body : List ℕ) : Type 0 where
  pub entries : take (4 + 20 * k) head ≡ take 4 old_head ++ joined (entry xs) k
  pub offset : at ≡ length (joined (block_bytes xs) k)
  pub blocks : take at body ≡ joined (block_bytes xs) k

-- what is left of the tail comes after what was written
pub record TailPut (start before at here : ℕ) (xs left old out : List ℕ) : Type 0 where
  pub written : take at out ++ tail_bytes here left ≡ take start old ++ tail_bytes before xs
  pub climbs : Climbs here left
  pub room : at + length (tail_bytes here left) ≡ start + length (tail_bytes before xs)

-- so many bytes were counted for the tail's numbers but those that are left
pub record TailCounted (before here count : ℕ) (xs left : List ℕ) : Type 0 where
  pub counted : count + length (tail_bytes here left) ≡ length (tail_bytes before xs)
  pub climbs : Climbs here left
