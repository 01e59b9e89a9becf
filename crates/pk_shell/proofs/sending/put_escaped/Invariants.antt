-- A front of the text is put, and this is the rest of it.
use Rattle.std.proofs.Common.{◌≡◌, ◌++◌, ℕ, List, length}
use Rattle.std.specs.List.{flat_map}
use Rattle.pk_shell.specs.ReplyText.{escaped}
use Rattle.pk_shell.specs.Sending.{HasPut}
use Rattle.pk_shell.proofs.sending.put_escaped.Given as goal

abbrev pub invariant-escapes : goal.invariant-escapes
invariant-escapes g l = (front : List ℕ) × (l.text ≡ front ++ l.rest)
    × HasPut l.fn.outbox (g.W.Write.contents l.fn.writer) l.outbox (g.W.Write.contents l.writer) (flat_map escaped front)

abbrev pub decreases-escapes : goal.decreases-escapes
decreases-escapes g l = length l.rest
