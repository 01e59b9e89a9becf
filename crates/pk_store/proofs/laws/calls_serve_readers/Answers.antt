-- By induction on the calls, which are commands.
use Rattle.pk_store.proofs.ReaderLemmas.{serve_readers}
use Rattle.pk_store.proofs.laws.calls_serve_readers.Goals as goal

pub returns : goal.returns
returns g c = λ honest. serve_readers g.D.Disk honest
