-- Each move lets them evolve.
use Rattle.pk_manifest.proofs.Moves.{moves_evolve}
use Rattle.pk_manifest.proofs.laws.moves_let_the_bytes_evolve.Goals as goal

pub returns : goal.returns
returns c = moves_evolve
