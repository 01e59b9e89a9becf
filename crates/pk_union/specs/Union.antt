-- A union that grows: numbers that are marked, beside lists on a stack.
use Rattle.std.specs.Prelude.{ℕ, suc, ◌+◌, ◌^◌, ◌<◌, ◌≤◌, Bool, true, false, List, [], ◌∷◌, All, length}
use Rattle.std.specs.Global.{Vec}
use Rattle.std.specs.List.Sorted.{IsStrictlyIncreasing}
use Rattle.pk_union.specs.Stack.{IsStack, lengths_of}
use Rattle.pk_union.specs.Uniting.{items_of, union_of}
use Rattle.pk_sets.specs.Sets.{union}

-- the numbers from the first on whose mark is set
abbrev pub marked : ℕ → List Bool → List ℕ
marked first [] = []
marked first (true ∷ marks) = first ∷ marked (suc first) marks
marked first (false ∷ marks) = marked (suc first) marks

-- a number is one of so many from the first on
abbrev pub IsWithin : ℕ → ℕ → ℕ → Type 0
IsWithin first count n = (first ≤ n) × (n < first + count)

-- the numbers that are marked, and those of the lists
abbrev pub numbers_put : ℕ → List Bool → List (Vec ℕ) → List ℕ
numbers_put first marks lists = union (marked first marks) (union_of (items_of lists))

-- the lists rise, each more than twice as long as the one above it; a number that has a mark is one
-- of so many from the first on, and less than 2 ^ 32
pub record IsUnion (first count : ℕ) (marks : List Bool) (lists : List (Vec ℕ)) : Type 0 where
  pub rising : All IsStrictlyIncreasing (items_of lists)
  pub stack : IsStack (lengths_of lists)
  pub within : length marks ≤ count
  pub fits : first + count ≤ 2 ^ 32
