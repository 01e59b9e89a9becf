-- What is left of the segments is what lives of their documents.
use Rattle.std.proofs.Common.{◌∙◌, ap, arith, sum_by}
use Rattle.std.proofs.lemmas.List.{take_all}
use Rattle.pk_open.specs.Opened.{left_of}
use Rattle.pk_open.proofs.LookUpLemmas.{count_all}
use Rattle.pk_open.proofs.showing.count_stored.Goals as goal

pub returns-clause-is : goal.returns-clause-is
returns-clause-is c = λ committed are whole.
    c.loop-segment.invariant.counted ∙ ap (sum_by left_of) (take_all c.loop-segment.segment-index c.args.opened.now (omega (arith, c.loop-segment-test.false)))
    ∙ count_all c.args.opened.now committed are whole
