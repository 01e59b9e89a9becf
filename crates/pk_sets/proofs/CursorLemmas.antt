-- A loop stays on its way: where it begins, and from step to step.
use Rattle.std.proofs.Common.{ℕ, List, ◌≤◌, length, refl, ◌∙◌}
use Rattle.pk_sets.specs.declared.cursor.Cursor.{Cursor}
use Rattle.pk_sets.specs.Cursors.{Reaches}

pub reaches_itself : (op : List ℕ → List ℕ → List ℕ) (xs ys : List ℕ) (at : Cursor) (out : List ℕ)
    → at.a ≤ length xs → at.b ≤ length ys → Reaches op xs ys at out at out
reaches_itself op xs ys at out left right = record { in_a = left; in_b = right; found = refl }

pub reaches_then : {op : List ℕ → List ℕ → List ℕ} {xs ys : List ℕ} {from at to : Cursor} {old mid new : List ℕ}
    → Reaches op xs ys from old at mid → Reaches op xs ys at mid to new → Reaches op xs ys from old to new
reaches_then first second = record { in_a = second.in_a; in_b = second.in_b; found = second.found ∙ first.found }
