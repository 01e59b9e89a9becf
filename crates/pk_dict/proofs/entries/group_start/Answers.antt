-- A group begins within the dictionary, or the dictionary is damaged.
use Rattle.std.proofs.Common.{arith}
use Rattle.pk_dict.proofs.Collecting.{start_is, start_past}
use Rattle.pk_dict.proofs.Parts.{length_bytes_at}
use Rattle.pk_dict.proofs.entries.group_start.Goals as goal

pub returns-in-None-clause-value : goal.returns-in-None-clause-value
returns-in-None-clause-value g c h =
    start_past _ _ _ _ (c.in_ok-offset.ensures.value h) (omega (arith, length_bytes_at (g.S.ByteSource.content c.args.source.now) c.args.place c.requires.lies.0, c.in-None.ensures))

pub returns-then-place-start-clause-value : goal.returns-then-place-start-clause-value
returns-then-place-start-clause-value g c h =
    start_past _ _ _ _ (c.in_ok-offset.ensures.value h) (omega (arith, length_bytes_at (g.S.ByteSource.content c.args.source.now) c.args.place c.requires.lies.0, c.in-Some.ensures))

pub returns-clause-value : goal.returns-clause-value
returns-clause-value g c h =
    start_is _ _ _ _ _ (c.in_ok-offset.ensures.value h) (omega (arith, c.in-Some.ensures)) (omega (arith, length_bytes_at (g.S.ByteSource.content c.args.source.now) c.args.place c.requires.lies.0, c.in-Some.ensures))
