-- Each byte that is claimed is where it was.
use Rattle.pk_manifest.proofs.Longer.{longer_evolves}
use Rattle.pk_manifest.proofs.laws.a_file_may_be_made_longer.Goals as goal

pub returns : goal.returns
returns c = longer_evolves
