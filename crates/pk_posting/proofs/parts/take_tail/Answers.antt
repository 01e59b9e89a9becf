use Rattle.std.proofs.Common.{◌≡◌, ◌+◌, [], ◌∙◌, take, drop, arith}
use Rattle.std.proofs.lemmas.List.{take_rest, take_more_set}
use Rattle.std.proofs.lemmas.Bool.{eq-eqb, eqb-true}
use Rattle.pk_vbyte.specs.VariableByte.{Takes}
use Rattle.pk_posting.proofs.TailLemmas.{tail_none, tail_more, no_next}
use Rattle.pk_posting.proofs.PartLemmas.{taken_ends, taken_is, tail_taken}
use Rattle.pk_posting.proofs.parts.take_tail.Goals as goal
use Rattle.pk_posting.proofs.parts.take_tail.Goals.{then-gap-eq0-via-then-gap-eq0, then-gap-eq0-via-else-gap-eq0+then-gap-here}

pub loop-i-init : goal.loop-i-init
loop-i-init c = record { room = omega arith; read = tail_none c.args.bytes.now 0 c.args.before c.args.count [] (omega arith) }

pub returns-in_default-clause-only : goal.returns-in_default-clause-only
returns-in_default-clause-only c ys t =
    absurd (no_next c.args.bytes.now 0 c.args.before c.args.count c.loop-i.i c.loop-i.at c.loop-i.here _ _ c.loop-i-test.true c.loop-i.invariant.read
    (λ v rest h s l e. c.in_default.ensures.only v rest h (take_rest c.args.bytes.now c.loop-i.at ∙ e)) ys t)

pub returns-then-gap-eq0-clause-only : goal.returns-then-gap-eq0-clause-only
returns-then-gap-eq0-clause-only c ys t =
    absurd (no_next c.args.bytes.now 0 c.args.before c.args.count c.loop-i.i c.loop-i.at c.loop-i.here _ _ c.loop-i-test.true c.loop-i.invariant.read
    (λ v rest h s l e.
    let same = c.in-Ok.ensures.only v rest h (take_rest c.args.bytes.now c.loop-i.at ∙ e) in
    let gap : c.in-Ok.gap ≡ v = same.0 in
    elim c.then-gap-eq0.branch [ then-gap-eq0-via-then-gap-eq0 w ↦ omega arith | then-gap-eq0-via-else-gap-eq0+then-gap-here w ↦ omega arith ]) ys t)

pub loop-i-preserved : goal.loop-i-preserved
loop-i-preserved c =
    let rest = take_rest c.args.bytes.now c.loop-i.at in
    let taken : Takes (drop c.loop-i.at c.args.bytes.now) c.in-Ok.gap c.in-Ok.used = rw rest at c.in-Ok.ensures.taken in
    let more = tail_more c.args.bytes.now 0 c.args.before c.args.count c.loop-i.i c.loop-i.at c.loop-i.here [] (take c.loop-i.i c.loop-i.xs) c.in-Ok.gap c.in-Ok.used
    c.loop-i-test.true c.loop-i.invariant.read taken (omega arith) (omega arith) (λ v others h e. c.in-Ok.ensures.only v others h (rest ∙ e)) in
    record {
      room = more.room;
      read = rw (take_more_set c.loop-i.xs c.loop-i.i (c.loop-i.here + c.in-Ok.gap) (omega arith)) more;
    }

pub returns-clause-is : goal.returns-clause-is
returns-clause-is c h =
    let all : c.loop-i.i ≡ c.args.count = omega arith in
    let room = c.loop-i.invariant.room in
    let ends = eqb-true _ _ h in
    taken_is c.args.bytes.now c.args.before c.args.count c.loop-i.at c.loop-i.here _ (rw all at c.loop-i.invariant.read) (omega (arith, room, ends))

pub returns-clause-only : goal.returns-clause-only
returns-clause-only c ys t =
    let all : c.loop-i.i ≡ c.args.count = omega arith in
    let read = rw all at c.loop-i.invariant.read in (
      eq-eqb _ _ (omega (arith, taken_ends c.args.bytes.now c.args.before c.args.count c.loop-i.at c.loop-i.here _ ys read t)),
      tail_taken c.args.bytes.now c.args.before c.args.count c.loop-i.at c.loop-i.here _ ys read t,
    )
