-- How many documents a merge leaves at the least, whatever bytes its inputs are.
use Rattle.std.specs.Prelude.{◌≤◌, ◌+◌, ◌-◌, ℕ, List, [], ◌∷◌, length, Option, Some, None, Result, Ok, Err}
use Rattle.pk_disk.specs.Units.{extent_bytes}
use Rattle.pk_join.specs.declared.input.MergeInput.{MergeInput}
use Rattle.pk_merge.specs.declared.fault.MergeFault.{MergeFault}
use Rattle.pk_merge.specs.declared.prepared.Prepared.{Prepared}
use Rattle.pk_segment.specs.Fields.{header_field, number_at}

-- how many of the numbers are not above n: 1 for each of them, 0 for another
abbrev pub count_to : ℕ → List ℕ → ℕ
count_to n [] = 0
count_to n (x ∷ xs) = (1 - (x - n)) + count_to n xs

-- how many documents the header of a segment says
abbrev pub count_said : List ℕ → ℕ
count_said bytes = number_at 4 (header_field bytes)

-- how many the headers of all inputs say
abbrev pub counts_said : List ℕ → List MergeInput → ℕ
counts_said bytes [] = 0
counts_said bytes (i ∷ is) = count_said (extent_bytes bytes i.extent) + counts_said bytes is

-- how many numbers their deletion lists have
abbrev pub numbers_listed : List MergeInput → ℕ
numbers_listed [] = 0
numbers_listed (i ∷ is) = length i.dead.now + numbers_listed is

-- of the documents that the headers say no more are left out than the deletion lists have numbers
abbrev pub LeavesEnough : List ℕ → List MergeInput → Result (Option Prepared) MergeFault → Type 0
LeavesEnough bytes inputs (Ok None) = counts_said bytes inputs ≤ numbers_listed inputs
LeavesEnough bytes inputs (Ok (Some p)) =
    counts_said bytes inputs ≤ length p.documents.items + numbers_listed inputs
LeavesEnough bytes inputs (Err fault) = Unit {0}
