-- What a term adds where it begins a group, and where it goes on.
use Rattle.std.proofs.Common.{arith, refl, ap, ◌∙◌, ◌-◌, List, ℕ, length}
use Rattle.pk_dict.specs.Dictionary.{shared}
use Rattle.pk_dict.proofs.Growing.{grown_first, grown_other}
use Rattle.pk_dict.proofs.writer.DictWriter.growth.Goals as goal

pub returns-then-self-eq0 : goal.returns-then-self-eq0
returns-then-self-eq0 c es a =
    omega (arith, grown_first es (record { term = c.args.term.now; entry = c.args.entry }) _ (omega (arith, a.count, c.if-self-eq0.true)) refl, c.rest_size.ensures.value)

pub returns : goal.returns
returns c es a =
    let kept = c.shared_front-kept.ensures.value ∙ ap (λ (l : List ℕ). shared l c.args.term.now) (c.deref.ensures.value ∙ a.last) in
    omega (
      arith,
      grown_other es (record { term = c.args.term.now; entry = c.args.entry }) (length c.args.term.now - c.shared_front-kept.result) c.shared_front-kept.result (omega (arith, a.count, c.if-self-eq0.false)) kept (omega (arith, c.shared_front-kept.ensures.most)),
      c.number_size.ensures.value,
      c.rest_size-2.ensures.value,
    )
