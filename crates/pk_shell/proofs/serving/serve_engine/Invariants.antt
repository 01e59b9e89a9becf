-- What was read so far is answered, line by line, and each read gave a byte at least.
use Rattle.pk_shell.specs.Progress.{Progress}
use Rattle.pk_shell.proofs.serving.serve_engine.Given as goal

abbrev pub invariant-loop : goal.invariant-loop
invariant-loop g l =
    Progress g.E.Engine.replies l.fn.engine (g.R.Read.remaining l.fn.reader) (g.R.Read.remaining l.reader) (g.W.Write.contents l.fn.writer) l.counter l.buffers.line l.engine (g.W.Write.contents l.writer)
