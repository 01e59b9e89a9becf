-- The words of the parts so far have the number; those from the place on are left.
use Rattle.std.proofs.Common.{◌≡◌, ◌-◌, ◌++◌, List, ℕ, drop, length}
use Rattle.std.specs.Str.{IsCharBoundary}
use Rattle.pk_model.specs.Words.{words_of}
use Rattle.pk_index.specs.Lists.{Notes}
use Rattle.pk_index.proofs.adding.note_parts.Given as goal

abbrev pub invariant-parts : goal.invariant-parts
invariant-parts l = record {
  boundary : IsCharBoundary l.text l.at;
  noted : (done : List (List ℕ)) × (words_of l.text ≡ done ++ words_of (drop l.at l.text)) × Notes done l.number l.fn.lists l.lists;
}

abbrev pub decreases-parts : goal.decreases-parts
decreases-parts l = length l.text - l.at
