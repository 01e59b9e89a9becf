-- One lane more has its bit.
use Rattle.std.proofs.Common.{◌+◌, slice_index, arith, refl}
use Rattle.pk_filter.proofs.FilterLemmas.{grows_none, grows_or, grows_then, has_more}
use Rattle.pk_filter.proofs.bits.set_bits.Goals as goal

pub set-init : goal.set-init
set-init c = record { has = λ j lt. absurd (omega (arith, lt)); grows = grows_none c.args.lanes.now }

pub set-preserved : goal.set-preserved
set-preserved c =
    let at = c.args.start + c.set.lane in
    record {
      has = has_more c.set.lanes c.args.start c.set.lane c.mask.result c.args.hash (omega arith) c.mask.ensures c.set.invariant.has;
      grows = grows_then c.set.invariant.grows (grows_or c.set.lanes at (slice_index c.set.lanes at) c.mask.result (omega arith) refl);
    }
