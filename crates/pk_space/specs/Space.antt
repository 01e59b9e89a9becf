-- The units that a space has free.
use Rattle.std.specs.Prelude.{ℕ, Bool}
use Rattle.pk_space.specs.declared.space.Space.{Space}
use Rattle.pk_space.specs.Runs.{is_in_run}

abbrev pub is_free : Space → ℕ → Bool
is_free space = is_in_run space.runs.items
