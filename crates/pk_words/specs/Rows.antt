-- Words that stand in a row, by how much of the row is begun.
use Rattle.std.specs.Prelude.{◌≡◌, ◌<◌, ◌++◌, ℕ, List, map, take, drop, get_or, length}
use Rattle.std.specs.Borrow.{Bor}
use Rattle.std.specs.List.{EachIndex}
use Rattle.pk_model.specs.Tree.{stand_in}

-- lent words as lists of bytes
abbrev pub texts : List (Bor (List ℕ)) → List (List ℕ)
texts words = map (λ (word : Bor (List ℕ)). word.now) words

-- Of the row so many words are begun, then these words come, and then so many are begun: whatever
-- follows, the row stands after the one where it stands after the other.
abbrev pub Continues : List (List ℕ) → ℕ → List (List ℕ) → ℕ → Type 0
Continues row before words begun = (rest : List (List ℕ))
    → stand_in row (take before row ++ (words ++ rest)) ≡ stand_in row (take begun row ++ rest)

-- so many words of the row are begun by those before the place, without the first of them
pub record IsShorter (row : List (List ℕ)) (place begun : ℕ) : Type 0 where
  pub less : 0 < place → begun < place
  pub same : (rest : List (List ℕ))
      → stand_in row (drop 1 (take place row) ++ rest) ≡ stand_in row (take begun row ++ rest)

-- the table has that for each of its places
abbrev pub AreShorter : List (List ℕ) → List ℕ → Type 0
AreShorter row table = EachIndex table (λ place. IsShorter row place (get_or table place 0))

-- it has a place for each word of the row
pub record IsTable (row : List (List ℕ)) (table : List ℕ) : Type 0 where
  pub len : length table ≡ length row
  pub shorter : AreShorter row table
