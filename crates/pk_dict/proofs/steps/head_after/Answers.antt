-- A size that no u32 holds goes past the end.
use Rattle.std.proofs.Common.{arith, ◌+◌, refl}
use Rattle.pk_dict.specs.Place.{bytes_at}
use Rattle.pk_dict.specs.Reading.{head_at}
use Rattle.pk_dict.proofs.Parts.{length_bytes_at}
use Rattle.pk_dict.proofs.Shared.{beyond}
use Rattle.pk_dict.proofs.steps.head_after.Goals as goal

pub returns-in-None-clause-value : goal.returns-in-None-clause-value
unfolding head_at
returns-in-None-clause-value g c h at read = rw read (rw (beyond (bytes_at (g.S.ByteSource.content c.args.source.now) c.args.place) (c.args.rest + c.args.size) (omega (arith, length_bytes_at (g.S.ByteSource.content c.args.source.now) c.args.place c.requires.0, c.in-None.ensures))) refl)
