-- The part of the span is as long as the entry says.
use Rattle.std.proofs.Common.{Option, ℕ, subst}
use Rattle.std.specs.Prelude.{IfSome}
use Rattle.pk_phrase.proofs.SaidLemmas.{part_said}
use Rattle.pk_phrase.specs.Said.{LiesSaid}
use Rattle.pk_phrase.proofs.in_row.text_within.Goals as goal

pub returns-clause-said : goal.returns-clause-said
returns-clause-said c = λ bytes read of.
    let s = c.args.search.now.segment.now in
    let lies = subst (λ (o : Option (ℕ × ℕ)). IfSome o (LiesSaid bytes s c.args.candidate.number)) c.in-Some.is (c.lent_place.ensures.said bytes read) in
    part_said bytes s c.args.candidate.number (c.in-Some.start, c.in-Some.len) c.part.result lies (c.part.ensures.value bytes of) c.part.ensures.long
