-- The byte after a term that shares too little is the dictionary's.
use Rattle.std.proofs.Common.{arith, refl}
use Rattle.std.proofs.lemmas.Bool.{lt-ltb, le-ltb}
use Rattle.pk_dict.specs.Reading.{step_at, apart_at}
use Rattle.pk_dict.proofs.Pieces.{byte_near}
use Rattle.pk_dict.proofs.near.step_in.Goals as goal

pub returns-then-term-kept-clause-value : goal.returns-then-term-kept-clause-value
unfolding step_at apart_at
returns-then-term-kept-clause-value c bytes p =
    let b = byte_near bytes c.args.start c.in_ok-head.head.rest c.args.piece.now p c.in_ok-head.ensures.inside.0 (omega (arith, c.if-from-piece.true)) in
    rw (c.in_ok-head.ensures.value bytes p) (rw (le-ltb _ _ c.if-matched-kept.false) (rw (lt-ltb c.args.coming.kept c.args.coming.matched (omega (arith, c.if-matched-kept.false, c.if-matched-kept-2.false))) (rw b (rw (lt-ltb _ _ c.if-term-kept.true) refl))))
