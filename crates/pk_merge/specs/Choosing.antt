-- Which run of eight neighbours is chosen.
use Rattle.std.specs.Prelude.{ℕ, ◌<◌, List, length, Option, Some, None}
use Rattle.pk_model.specs.Limits.{tidy_run}
use Rattle.pk_state.specs.Runs.{IsLeastRun}

-- the first of the least runs, or none where there is no run
abbrev pub ChoosesAs : List ℕ → Option ℕ → Type 0
ChoosesAs sizes None = length sizes < tidy_run
ChoosesAs sizes (Some at) = IsLeastRun sizes at
