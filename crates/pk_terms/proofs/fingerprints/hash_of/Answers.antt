-- By the definition.
use Rattle.std.proofs.Common.{refl}
use Rattle.pk_terms.specs.Fingerprints.{hash_of}
use Rattle.pk_terms.proofs.fingerprints.hash_of.Goals as goal

pub returns : goal.returns
unfolding hash_of
returns c = refl
