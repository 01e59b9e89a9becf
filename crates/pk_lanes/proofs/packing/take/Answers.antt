-- One vector more is packed, whether it fills a word or not.
use Rattle.std.proofs.Common.{arith, ◌+◌, ◌*◌}
use Rattle.pk_lanes.proofs.PackingLemmas.{filling_kept, filling_stored}
use Rattle.pk_lanes.proofs.packing.take.Goals as goal

pub returns-then-s-b-lt32 : goal.returns-then-s-b-lt32
returns-then-s-b-lt32 c =
    filling_kept c.args.xs.now c.args.b c.args.k c.args.out.now c.args.word c.vector-x.result c.with_shifted-full.result c.requires.front
    (record {
      small = λ i h. rw (c.vector-x.ensures.value i h) (c.requires.small (4 * c.args.k + i) (omega arith));
      value = c.vector-x.ensures.value;
      lows = c.with_shifted-full.ensures.lows;
      highs = c.with_shifted-full.ensures.highs;
    })
    c.if-s-b-lt32.true

pub returns : goal.returns
returns c =
    filling_stored c.args.xs.now c.args.b c.args.k c.args.out.now c.args.word c.vector-x.result c.with_shifted-full.result c.store.new.out c.rest_of.result
    c.requires.high c.requires.front
    (record {
      small = λ i h. rw (c.vector-x.ensures.value i h) (c.requires.small (4 * c.args.k + i) (omega arith));
      value = c.vector-x.ensures.value;
      lows = c.with_shifted-full.ensures.lows;
      highs = c.with_shifted-full.ensures.highs;
    })
    c.if-s-b-lt32.false c.store.ensures.here c.store.ensures.before c.rest_of.ensures
