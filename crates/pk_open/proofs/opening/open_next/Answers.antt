-- A fault of the entry is one of the entry with bounds.
use Rattle.std.proofs.Common.{sym, subst, Err, Result}
use Rattle.std.proofs.lemmas.Result.{err_from_is_err_and}
use Rattle.pk_open.specs.declared.opened.OpenSegment.{OpenSegment}
use Rattle.pk_posting.specs.declared.fault.ReadFault.{ReadFault}
use Rattle.pk_open.specs.Opening.{OpensNext, ReadsOne}
use Rattle.pk_open.specs.Opening.{OpensAsSegment}
use Rattle.pk_open.proofs.EntryLemmas.{fault_next}
use Rattle.pk_open.proofs.opening.open_next.Goals as goal

pub returns-in_err-opened-clause-opened : goal.returns-in_err-opened-clause-opened
returns-in_err-opened-clause-opened g c = λ honest.
    let bytes = g.D.Disk.content c.args.disk.now in
    let found = err_from_is_err_and c.from_residual.result c.from_residual.ensures.1 in
    subst (λ (r : Result OpenSegment ReadFault). ReadsOne (OpensNext bytes c.args.bounds.low c.args.bounds.next c.args.entry) r) (sym found.1)
    (fault_next bytes c.args.bounds.low c.args.bounds.next c.args.entry found.0
    (subst (λ (why : ReadFault). ReadsOne (OpensAsSegment bytes c.args.entry) (Err why)) (sym found.2) (c.in_err-opened.ensures.opened honest)))
