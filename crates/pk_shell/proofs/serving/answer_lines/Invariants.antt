-- A front of the chunk is taken in, and this is the rest of it.
use Rattle.std.proofs.Common.{length}
use Rattle.pk_shell.specs.Transcript.{IsTakenTo}
use Rattle.pk_shell.proofs.serving.answer_lines.Given as goal

abbrev pub invariant-lines : goal.invariant-lines
invariant-lines g l =
    IsTakenTo g.E.Engine.replies l.fn.buffers.line l.fn.engine (g.W.Write.contents l.fn.writer) l.chunk l.rest l.buffers.line l.engine (g.W.Write.contents l.writer)

abbrev pub decreases-lines : goal.decreases-lines
decreases-lines g l = length l.rest
