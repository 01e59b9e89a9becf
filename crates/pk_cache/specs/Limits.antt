-- How much a cache keeps.
use Rattle.std.specs.Prelude.{ℕ}

-- the most blocks that a cache may keep
abbrev pub most_blocks : ℕ
most_blocks = 65536
