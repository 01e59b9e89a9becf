-- What is shared with the piece's rest is shared with the dictionary's, and its next byte is theirs.
use Rattle.std.proofs.Common.{arith, refl}
use Rattle.std.proofs.lemmas.Bool.{eq-eqb, ne_eqb, lt-ltb, le-ltb}
use Rattle.pk_dict.specs.Reading.{compared_at}
use Rattle.pk_dict.proofs.Pieces.{shared_near, next_near}
use Rattle.pk_dict.proofs.near.compared_in.Goals.{then-matched-term-2-via-then-matched-term-2, then-matched-term-2-via-else-matched-term-2+then-term-matched}
use Rattle.pk_dict.proofs.near.compared_in.Goals as goal

pub returns-then-matched-term-clause-value : goal.returns-then-matched-term-clause-value
unfolding compared_at
returns-then-matched-term-clause-value c bytes p =
    let s = shared_near bytes c.args.start c.args.head.rest c.args.head.size c.args.piece.now c.args.term.now c.args.matched c.shared_front-more.result p c.requires.after c.requires.inside c.shared_front-more.ensures.value in
    rw s (rw (eq-eqb _ _ c.if-more-size.true) (rw (eq-eqb _ _ c.if-matched-term.true) refl))

pub returns-then-more-size-clause-value : goal.returns-then-more-size-clause-value
unfolding compared_at
returns-then-more-size-clause-value c bytes p =
    let s = shared_near bytes c.args.start c.args.head.rest c.args.head.size c.args.piece.now c.args.term.now c.args.matched c.shared_front-more.result p c.requires.after c.requires.inside c.shared_front-more.ensures.value in
    rw s (rw (eq-eqb _ _ c.if-more-size.true) (rw (ne_eqb _ _ c.if-matched-term.false) refl))

pub returns-then-matched-term-2-clause-value : goal.returns-then-matched-term-2-clause-value
unfolding compared_at
returns-then-matched-term-2-clause-value c bytes p =
    let s = shared_near bytes c.args.start c.args.head.rest c.args.head.size c.args.piece.now c.args.term.now c.args.matched c.shared_front-more.result p c.requires.after c.requires.inside c.shared_front-more.ensures.value in
    let b = next_near bytes c.args.start c.args.head.rest c.shared_front-more.result c.args.piece.now p c.requires.after (omega (arith, c.requires.inside, c.if-more-size.false, c.shared_front-more.ensures.most)) in
    elim c.then-matched-term-2.branch [
      | then-matched-term-2-via-then-matched-term-2 w ↦ rw s (rw (ne_eqb _ _ c.if-more-size.false) (rw (eq-eqb _ _ w.if-matched-term-2.true) refl))
      | then-matched-term-2-via-else-matched-term-2+then-term-matched w ↦ rw s (rw (ne_eqb _ _ c.if-more-size.false) (rw (ne_eqb _ _ w.if-matched-term-2.false) (rw b (rw (lt-ltb _ _ w.if-term-matched.true) refl))))
    ]

pub returns-clause-value : goal.returns-clause-value
unfolding compared_at
returns-clause-value c bytes p =
    let s = shared_near bytes c.args.start c.args.head.rest c.args.head.size c.args.piece.now c.args.term.now c.args.matched c.shared_front-more.result p c.requires.after c.requires.inside c.shared_front-more.ensures.value in
    let b = next_near bytes c.args.start c.args.head.rest c.shared_front-more.result c.args.piece.now p c.requires.after (omega (arith, c.requires.inside, c.if-more-size.false, c.shared_front-more.ensures.most)) in
    rw s (rw (ne_eqb _ _ c.if-more-size.false) (rw (ne_eqb _ _ c.if-matched-term-2.false) (rw b (rw (le-ltb _ _ c.if-term-matched.false) refl))))
