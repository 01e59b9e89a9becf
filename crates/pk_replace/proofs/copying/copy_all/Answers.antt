-- A part more is copied.
use Rattle.std.proofs.Common.{◌≡◌, ◌≤◌, ◌+◌, length, take, drop, arith, length-append, length-drop}
use Rattle.std.proofs.lemmas.List.{length-take-le}
use Rattle.pk_replace.proofs.CopyLemmas.{part_more}
use Rattle.pk_replace.proofs.copying.copy_all.Goals as goal

pub parts-preserved : goal.parts-preserved
parts-preserved g c =
    let inner : c.min-n.result ≤ length c.parts.buffer = omega (arith, c.parts.invariant.0, c.min-n.ensures) in
    let fits : c.parts.done + c.min-n.result ≤ c.args.bytes = omega (arith, c.parts.invariant.1.most, c.min-n.ensures) in
    let long : length (take c.min-n.result c.parts.buffer) ≡ c.min-n.result = length-take-le c.min-n.result c.parts.buffer inner in (
      omega (arith, c.parts.invariant.0, inner, long, c.copy_part.auto.buffer, length-append c.copy_part.new.buffer (drop c.min-n.result c.parts.buffer), length-drop c.min-n.result c.parts.buffer),
      part_more g.D.Disk c.args.from c.args.to c.args.bytes c.args.disk.now c.parts.done c.min-n.result c.parts.disk c.copy_part.new.disk fits c.parts.invariant.1 (take c.min-n.result c.parts.buffer) long
          c.copy_part.ensures.writes c.requires.can c.in_ok-copy_part.ensures.copied c.in_ok-copy_part.ensures.cause,
    )
