-- The words of the pieces so far have the number.
use Rattle.std.proofs.Common.{map, Bor, ℕ, List}
use Rattle.pk_model.specs.Words.{folded}
use Rattle.pk_index.specs.Lists.{Notes}
use Rattle.pk_index.proofs.adding.note_others.Given as goal

abbrev pub invariant-words : goal.invariant-words
invariant-words l = Notes (map folded (map (λ (w : Bor (List ℕ)). w.now) l.yielded)) l.number l.fn.lists l.lists
