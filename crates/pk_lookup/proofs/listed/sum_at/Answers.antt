-- One segment more.
use Rattle.std.proofs.Common.{◌≡◌, ◌∙◌, add-one, ap, arith}
use Rattle.pk_lookup.specs.Frequencies.{frequency_in}
use Rattle.pk_lookup.specs.Rows.{row_of}
use Rattle.pk_lookup.proofs.listed.sum_at.Goals as goal

pub loop-i-preserved : goal.loop-i-preserved
loop-i-preserved c =
    let table = c.args.table.now in
    let here : c.frequency_at.result ≡ frequency_in c.args.place (row_of table.words c.loop-i.i table.entries.now) = c.frequency_at.ensures ∙ ap (frequency_in c.args.place) c.row.ensures in
    rw add-one (omega (arith, c.saturating_add-sum.ensures, c.loop-i.invariant, here))
