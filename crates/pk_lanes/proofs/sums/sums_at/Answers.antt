-- Nothing is summed at first, and the whole block after 32 vectors.
use Rattle.pk_lanes.specs.Progress.{Summed}
use Rattle.pk_lanes.proofs.SumLemmas.{summed_none, summed_all}
use Rattle.pk_lanes.proofs.sums.sums_at.Goals as goal

pub returns : goal.returns
returns g c =
    let seed = c.args.seed.now in
    let four = c.told-seed in
    let none : Summed c.args.bytes.now g.row.B 0 seed c.args.xs.now c.start.result =
    rw c.start.ensures.value (summed_none c.args.bytes.now g.row.B seed c.args.xs.now four) in
    summed_all c.args.bytes.now g.row.B seed c.put_eight_sums-last-4.new.xs c.put_eight_sums-last-4.result c.requires.room
    (c.put_eight_sums-last-4.ensures seed four
    (c.put_eight_sums-last-3.ensures seed four
    (c.put_eight_sums-last-2.ensures seed four
    (c.put_eight_sums-last.ensures seed four none))))
