use Rattle.std.proofs.Common.{◌≡◌, drop, arith, refl, ◌∙◌}
use Rattle.std.proofs.lemmas.List.{take_rest}
use Rattle.pk_vbyte.specs.VariableByte.{Takes}
use Rattle.pk_posting.proofs.TailLemmas.{tail_none, tail_more, no_next, tail_over}
use Rattle.pk_posting.proofs.decoding.read_tail.Goals as goal
use Rattle.pk_posting.proofs.decoding.read_tail.Goals.{then-gap-eq0-via-then-gap-eq0, then-gap-eq0-via-else-gap-eq0+then-gap-here}

pub loop-i-init : goal.loop-i-init
loop-i-init c = record {
  read = tail_none c.args.bytes.now c.args.start c.args.before c.args.count c.args.out.now.items c.requires.offset;
  memory = refl;
}

pub returns-in_default-clause-damaged : goal.returns-in_default-clause-damaged
returns-in_default-clause-damaged c =
    no_next c.args.bytes.now c.args.start c.args.before c.args.count c.loop-i.i c.loop-i.at c.loop-i.here _ _ c.loop-i-test.true c.loop-i.invariant.read
    (λ v rest h s l e. c.in_default.ensures.only v rest h (take_rest c.args.bytes.now c.loop-i.at ∙ e))

pub returns-then-gap-eq0-clause-damaged : goal.returns-then-gap-eq0-clause-damaged
returns-then-gap-eq0-clause-damaged c =
    no_next c.args.bytes.now c.args.start c.args.before c.args.count c.loop-i.i c.loop-i.at c.loop-i.here _ _ c.loop-i-test.true c.loop-i.invariant.read
    (λ v rest h s l e.
    let same = c.in-Ok.ensures.only v rest h (take_rest c.args.bytes.now c.loop-i.at ∙ e) in
    let gap : c.in-Ok.gap ≡ v = same.0 in
    elim c.then-gap-eq0.branch [ then-gap-eq0-via-then-gap-eq0 w ↦ omega arith | then-gap-eq0-via-else-gap-eq0+then-gap-here w ↦ omega arith ])

pub loop-i-preserved : goal.loop-i-preserved
loop-i-preserved c =
    let rest = take_rest c.args.bytes.now c.loop-i.at in
    let taken : Takes (drop c.loop-i.at c.args.bytes.now) c.in-Ok.gap c.in-Ok.used = rw rest at c.in-Ok.ensures.taken in
    record {
      read = rw c.push_reserved.ensures.items (
          tail_more c.args.bytes.now c.args.start c.args.before c.args.count c.loop-i.i c.loop-i.at c.loop-i.here c.args.out.now.items c.loop-i.out.items c.in-Ok.gap c.in-Ok.used
          c.loop-i-test.true c.loop-i.invariant.read taken (omega arith) (omega arith) (λ v others h e. c.in-Ok.ensures.only v others h (rest ∙ e)));
      memory = c.push_reserved.ensures.capacity ∙ c.loop-i.invariant.memory;
    }

pub returns-then-at-bytes-clause-damaged : goal.returns-then-at-bytes-clause-damaged
returns-then-at-bytes-clause-damaged c =
    let all : c.loop-i.i ≡ c.args.count = omega arith in
    tail_over c.args.bytes.now c.args.start c.args.before c.args.count c.loop-i.at c.loop-i.here _ _ (rw all at c.loop-i.invariant.read) c.if-at-bytes.true
