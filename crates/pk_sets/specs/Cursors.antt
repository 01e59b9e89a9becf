-- Where a loop over two lists stands, and what stays the same on its way.
use Rattle.std.specs.Prelude.{ℕ, List, ◌≡◌, ◌≤◌, ◌++◌, length, take, drop}
use Rattle.pk_sets.specs.declared.cursor.Cursor.{Cursor}

-- from one index in two lists to another, with what is written there: what is written, and behind
-- it the operation on what is left of both lists, is one list
pub record Reaches (op : List ℕ → List ℕ → List ℕ) (xs ys : List ℕ) (from : Cursor) (old : List ℕ)
    (at : Cursor) (new : List ℕ) : Type 0 where
  pub in_a : at.a ≤ length xs
  pub in_b : at.b ≤ length ys
  pub found : take at.written new ++ op (drop at.a xs) (drop at.b ys)
      ≡ take from.written old ++ op (drop from.a xs) (drop from.b ys)
