-- The bytes are the same.
use Rattle.pk_manifest.proofs.Evolving.{evolves_here}
use Rattle.pk_manifest.proofs.laws.bytes_may_stay_as_they_are.Goals as goal

pub returns : goal.returns
returns c = evolves_here
