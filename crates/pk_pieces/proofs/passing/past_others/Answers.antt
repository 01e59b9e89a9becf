-- The word stands nowhere before the place.
use Rattle.pk_pieces.proofs.PassLemmas.{others_passed}
use Rattle.pk_pieces.proofs.passing.past_others.Goals as goal

pub returns-clause-passed : goal.returns-clause-passed
returns-clause-passed c =
    let e = c.next_start.ensures in
    others_passed c.args.bytes.now c.requires.ascii c.args.word.now c.args.from c.next_start.result e.high e.low e.apart e.none
