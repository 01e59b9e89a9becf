-- It did not in any of them.
use Rattle.pk_reader.proofs.TryLemmas.{times_low}
use Rattle.pk_reader.proofs.laws.outdated_tries_lose_nothing.Goals as goal

pub returns : goal.returns
returns c = times_low (λ bytes. Unit {0})
