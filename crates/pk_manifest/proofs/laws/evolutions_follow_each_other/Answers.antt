-- What was open behind a generation no greater than that in force was so at each moment.
use Rattle.pk_manifest.proofs.Evolving.{evolves_then}
use Rattle.pk_manifest.proofs.laws.evolutions_follow_each_other.Goals as goal

pub returns : goal.returns
returns c = evolves_then
