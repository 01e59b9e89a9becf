use Rattle.std.proofs.Common.{ℕ, List, arith, ap, length, length-drop}
use Rattle.pk_posting.specs.Parts.{bytes_at}
use Rattle.pk_posting.proofs.LentLemmas.{length_bytes_at}
use Rattle.pk_posting.proofs.PartLemmas.{tail_back, tail_lent, tail_most}
use Rattle.pk_posting.proofs.ReadingLemmas.{false_is}
use Rattle.pk_posting.proofs.parts.read_tail_in.Goals as goal

pub returns-then-place-tail-gt-LONGEST_TAIL-clause-spelled : goal.returns-then-place-tail-gt-LONGEST_TAIL-clause-spelled
returns-then-place-tail-gt-LONGEST_TAIL-clause-spelled g c h ys t =
    let L : List ℕ = bytes_at (g.S.ByteSource.content c.args.source.now) c.args.place in
    let size = length_bytes_at (g.S.ByteSource.content c.args.source.now) c.args.place c.requires.lies.inside in
    let long = t.long in
    absurd (omega (arith, size, long, length-drop c.args.tail L, ap length t.spelled, tail_most c.args.before ys t.climbs))

pub returns-then-not-take_tail-clause-spelled : goal.returns-then-not-take_tail-clause-spelled
returns-then-not-take_tail-clause-spelled g c h ys t =
    let own = tail_lent (g.S.ByteSource.content c.args.source.now) c.args.place _ c.args.tail c.in_ok-stretch.stretch.now c.args.before c.args.count ys c.requires.lies.inside (omega arith)
    (record { inside = omega arith; is = c.in_ok-stretch.ensures.value h }) t in
    let r = c.take_tail.ensures.only ys own in
    absurd (false_is c.take_tail.result r.0 c.if-not-take_tail.true)

pub returns-clause-spelled : goal.returns-clause-spelled
returns-clause-spelled g c h ys t =
    let own = tail_lent (g.S.ByteSource.content c.args.source.now) c.args.place _ c.args.tail c.in_ok-stretch.stretch.now c.args.before c.args.count ys c.requires.lies.inside (omega arith)
    (record { inside = omega arith; is = c.in_ok-stretch.ensures.value h }) t in
    (c.take_tail.ensures.only ys own).1

pub returns-clause-value : goal.returns-clause-value
returns-clause-value g c h =
    tail_back (g.S.ByteSource.content c.args.source.now) c.args.place _ c.args.tail c.in_ok-stretch.stretch.now c.args.before c.args.count _ c.requires.lies.inside (omega arith)
    (record { inside = omega arith; is = c.in_ok-stretch.ensures.value h }) (c.take_tail.ensures.is c.if-not-take_tail.false)

pub returns-clause-climbs : goal.returns-clause-climbs
returns-clause-climbs g c is = (c.take_tail.ensures.is c.if-not-take_tail.false).climbs
