-- It is there where its entry is.
use Rattle.std.proofs.Common.{◌∙◌, refl, sym, ap, subst, arith, Bool, Err, Result}
use Rattle.std.proofs.lemmas.Result.{err_from_is_err_and}
use Rattle.pk_posting.specs.declared.source.SourceFault.{SourceFault}
use Rattle.pk_segment.specs.Reading.{ContainsAs}
use Rattle.pk_segment.proofs.DirectoryLemmas.{within}
use Rattle.pk_segment.proofs.ReadLemmas.{cause_read, live_found}
use Rattle.pk_segment.proofs.segment.Segment.contains.Goals as goal

pub returns-in_err-entry-clause-directory : goal.returns-in_err-entry-clause-directory
returns-in_err-entry-clause-directory g c = λ honest docs kind is of.
    let found = err_from_is_err_and c.from_residual.result c.from_residual.ensures.1 in
    let there = within (g.S.ByteSource.content c.args.source.now) docs kind is in
    subst (λ (r : Result Bool SourceFault). ContainsAs docs c.args.number r) (sym found.1)
    (cause_read found.0 (λ same. absurd (omega (arith, there, of.count_is, c.in_err-entry.ensures.damaged (ap Err (sym found.2 ∙ same))))) _ refl)

pub returns-clause-directory : goal.returns-clause-directory
returns-clause-directory g c = λ honest docs kind is of.
    let live = live_found docs c.args.number c.in_ok-entry.entry (c.in_ok-entry.ensures.found honest docs kind is of) in
    cc (live, c.is_some.ensures)
