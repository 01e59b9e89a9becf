-- What the body in force is out of, and the refusal that this is.
use Rattle.std.specs.Prelude.{◌≡◌, ◌⊎◌, ◌≤◌, ◌<◌, ℕ, length, Result, Ok, Err}
use Rattle.pk_layout.specs.Plan.{LeavesRoom}
use Rattle.pk_manifest.specs.Spelling.{Body}
use Rattle.pk_model.specs.Limits.{end_of_ids, max_segments}
use Rattle.pk_model.specs.declared.commands.Refusal.{Refusal}
use Rattle.pk_model.specs.declared.commands.Refusal.TheVariants as refusal
use Rattle.pk_store.specs.declared.due.DueFault.{DueFault}
use Rattle.pk_store.specs.declared.due.DueFault.TheVariants.{NumbersUsedUp, TooManySegments}

abbrev pub due_refusal : DueFault → Refusal
due_refusal NumbersUsedUp = refusal.NumbersUsedUp
due_refusal TooManySegments = refusal.TooManySegments

-- the fault that a body and so many documents fix, if any: no id is left, or no entry for them
abbrev pub DueAs : Body → ℕ → Result (Unit {0}) DueFault → Type 0
DueAs b n (Ok none) = LeavesRoom b n
DueAs b n (Err NumbersUsedUp) = (b.generation ≡ end_of_ids) ⊎ (b.next_segment ≡ end_of_ids)
DueAs b n (Err TooManySegments) = (b.generation < end_of_ids) × (b.next_segment < end_of_ids)
    × (max_segments ≤ length b.entries) × (0 < n)
