-- The memory of a cursor.
use Rattle.std.specs.Prelude.{◌≤◌, ℕ, vec_capacity}
use Rattle.pk_dict.specs.declared.cursor.TermCursor.{TermCursor}

-- A cursor has room for words of so many bytes, and for what it reads ahead.
pub record HasRoom (n : ℕ) (c : TermCursor) : Type 0 where
  pub word : n ≤ vec_capacity c.word
  pub before : n ≤ vec_capacity c.held.before
  pub ahead : c.held.most ≤ vec_capacity c.held.bytes
