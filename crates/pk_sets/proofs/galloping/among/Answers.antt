-- The mask is not 0 exactly where x is in the stretch.
use Rattle.std.proofs.lemmas.Simd.{length-chunk}
use Rattle.std.specs.Simd.Lanes.{chunk}
use Rattle.pk_sets.proofs.LaneLemmas.{among_has}
use Rattle.pk_sets.proofs.galloping.among.Goals as goal

pub returns : goal.returns
returns c = among_has c.args.x (chunk c.args.at 32 c.args.b.now) (length-chunk c.args.at 32 c.args.b.now c.requires)
