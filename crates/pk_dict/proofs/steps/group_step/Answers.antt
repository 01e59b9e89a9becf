-- A group that would begin past every u32 goes past the end.
use Rattle.std.proofs.Common.{arith, ◌+◌, ◌*◌, refl}
use Rattle.pk_dict.specs.Dictionary.{group_count}
use Rattle.pk_dict.specs.Place.{bytes_at}
use Rattle.pk_dict.specs.Reading.{group_at, step_at, head_at}
use Rattle.pk_dict.proofs.Parts.{length_bytes_at}
use Rattle.pk_dict.proofs.Shared.{number_past}
use Rattle.pk_dict.proofs.steps.group_step.Goals as goal

pub returns-in-None-clause-value : goal.returns-in-None-clause-value
unfolding group_at step_at head_at
returns-in-None-clause-value g c h =
    rw (c.in_ok-offset.ensures.value h)
    (rw (number_past (bytes_at (g.S.ByteSource.content c.args.source.now) c.args.place) (4 * group_count c.args.place.terms + c.in_ok-offset.offset) (omega (arith, c.groups_of-base.ensures, length_bytes_at (g.S.ByteSource.content c.args.source.now) c.args.place c.requires.lies.0, c.in-None.ensures))) refl)
