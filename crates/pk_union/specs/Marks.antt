-- How many marks a union may have: they cost memory by what was put, not by the range.
use Rattle.std.specs.Prelude.{ℕ, ◌+◌, ◌*◌, ◌≤◌, Bool, List, length}

-- marks take at most 16 bytes for each number that was put, and 15
abbrev pub AreFew : ℕ → List Bool → Type 0
AreFew numbers marks = length marks ≤ 16 * numbers + 15
