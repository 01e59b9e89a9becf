-- A table of the digits of numbers from 0 on.
use Rattle.std.specs.Prelude.{◌≡◌, ◌<◌, ℕ, List, [], length, get_or}
use Rattle.pk_digits.specs.Digits.{four_digits}

-- the table has the four digits of each number below this one, and nothing else
pub record AreFours (below : ℕ) (table : List (List ℕ)) : Type 0 where
  pub size : length table ≡ below
  pub each : (n : ℕ) → n < below → get_or table n [] ≡ four_digits n
