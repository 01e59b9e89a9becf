-- The entries of a query's words in the dictionaries of all segments, in one table: a row for each.
use Rattle.std.specs.Prelude.{ℕ, ◌*◌, List, take, drop}

-- the row of the ith segment, the first being 0, where each has so many entries
abbrev pub row_of : {X : Type 0} → ℕ → ℕ → List X → List X
row_of words i table = take words (drop (i * words) table)
