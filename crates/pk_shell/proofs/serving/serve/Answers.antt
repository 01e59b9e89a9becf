-- Each line that asks the store is a call of it.
use Rattle.pk_shell.proofs.CalledLemmas.{by_calls}
use Rattle.pk_shell.proofs.serving.serve.Goals as goal

pub returns-clause-calls : goal.returns-clause-calls
returns-clause-calls g c =
    by_calls g.D.Disk (λ honest disk image. g.met.D.Disk.only_now disk image honest) _ _ _ _ _ _ _ c.serve_engine.ensures.ends
