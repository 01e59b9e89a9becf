-- A sound body names extents within its units.
use Rattle.pk_manifest.proofs.Found.{claimed_within}
use Rattle.pk_manifest.proofs.laws.a_sound_body_claims_of_its_file.Goals as goal

pub returns : goal.returns
returns c = claimed_within
