-- How many words an input has passed.
use Rattle.std.specs.Prelude.{◌≡◌, ◌≤◌, ◌<◌, ◌+◌, ◌-◌, ℕ, Bool, true, false}

-- of so many that it has come to: all but the last where it stands at that
abbrev pub passed_by : Bool → ℕ → ℕ
passed_by false read = read
passed_by true read = read - 1

-- An input that stands at a word has come to one. One that stands at none, whose key says that none
-- is to be read, has come to all.
pub record AreCounted (stands : Bool) (key read total : ℕ) : Type 0 where
  pub some : stands ≡ true → 0 < read
  pub all : stands ≡ false → 0 < key → total ≤ read

-- it has come to one word more; or to no other, since it has come to all
abbrev pub ComesOn : ℕ → ℕ → ℕ → Bool → Type 0
ComesOn old new total true = new ≡ old + 1
ComesOn old new total false = (new ≡ old) × (old ≡ total)
