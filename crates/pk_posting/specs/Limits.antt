-- How much a source lends, and how long a list may be.
use Rattle.std.specs.Prelude.{◌+◌, ◌-◌, ◌/◌, ℕ}

-- how many bytes are lent at once, at most
abbrev pub most_lent : ℕ
most_lent = 4096

-- how often a source is asked for so many bytes, as many at once as are lent
abbrev pub asks_for : ℕ → ℕ
asks_for n = (n + (most_lent - 1)) / most_lent

-- how many numbers a list has, at most
abbrev pub longest_list : ℕ
longest_list = 134217728
