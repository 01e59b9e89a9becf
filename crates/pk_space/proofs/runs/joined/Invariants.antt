-- What is joined, what it is joined to and the extents that are left have the units of all.
use Rattle.std.proofs.Common.{◌≡◌, ◌++◌, ◌∷◌, ℕ, drop, true}
use Rattle.std.specs.List.{list_all, list_any}
use Rattle.pk_disk.specs.Units.{lies_within}
use Rattle.pk_space.specs.Free.{has_unit}
use Rattle.pk_space.proofs.runs.joined.Given as goal

abbrev pub invariant-loop-e : goal.invariant-loop-e
invariant-loop-e l =
    let now = l.joined.items ++ l.last ∷ drop l.e-index l.rest in
    record {
      units : (u : ℕ) → list_any (has_unit u) now ≡ list_any (has_unit u) l.extents;
      within : (n : ℕ) → list_all (lies_within n) l.extents ≡ true → list_all (lies_within n) now ≡ true;
    }
