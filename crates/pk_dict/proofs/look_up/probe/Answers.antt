-- The first term of the group says what the search knows then.
use Rattle.std.proofs.Common.{arith, ap, subst, ◌∙◌, length, Ok}
use Rattle.std.proofs.lemmas.Result.{err_from_is_err_and}
use Rattle.pk_dict.specs.declared.head.Step.TheVariants.{Less, Past}
use Rattle.pk_dict.specs.Dictionary.{group_count}
use Rattle.pk_dict.specs.Place.{bytes_at}
use Rattle.pk_dict.specs.Search.{Goes, IsKnown}
use Rattle.pk_dict.proofs.Probing.{probe_fails, probe_found}
use Rattle.pk_dict.proofs.look_up.probe.Goals as goal

pub returns-in_err-entry-clause-known : goal.returns-in_err-entry-clause-known
returns-in_err-entry-clause-known g c = λ h es d len known.
    let p = err_from_is_err_and c.from_residual.result c.from_residual.ensures.1 in
    let amid = subst (Goes (group_count c.args.place.terms) (length c.args.term.now)) c.in-Open.is c.requires.goes in
    rw (p.1, p.2) (probe_fails _ es _ c.args.place.terms c.args.group _ d len (omega (arith, amid.most)) (c.in_err-entry.ensures.value h))

pub returns-in-Past-clause-known : goal.returns-in-Past-clause-known
returns-in-Past-clause-known g c = λ h es d len known.
    let amid = subst (Goes (group_count c.args.place.terms) (length c.args.term.now)) c.in-Open.is c.requires.goes in
    probe_found _ es _ c.args.place.terms c.args.group Past c.in-Open.between d len (omega (arith, amid.most)) (c.in_ok-entry.ensures.value h ∙ ap Ok c.in-Past.is)
    (subst (IsKnown (bytes_at (g.S.ByteSource.content c.args.source.now) c.args.place) es c.args.term.now) c.in-Open.is known)

pub returns-in-Less-clause-known : goal.returns-in-Less-clause-known
returns-in-Less-clause-known g c = λ h es d len known.
    let amid = subst (Goes (group_count c.args.place.terms) (length c.args.term.now)) c.in-Open.is c.requires.goes in
    probe_found _ es _ c.args.place.terms c.args.group (Less c.in-Less.matched c.in-Less.next) c.in-Open.between d len (omega (arith, amid.most)) (c.in_ok-entry.ensures.value h ∙ ap Ok c.in-Less.is)
    (subst (IsKnown (bytes_at (g.S.ByteSource.content c.args.source.now) c.args.place) es c.args.term.now) c.in-Open.is known)
