-- The numbers of a segment lie between its neighbours, and its deletion list is one of them.
use Rattle.std.proofs.Common.{◌∙◌, ◌-◌, List, ℕ, Result, Err, sym, ap, subst, arith}
use Rattle.std.proofs.lemmas.Result.{err_from_is_err_and}
use Rattle.pk_posting.specs.declared.fault.ReadFault.{ReadFault}
use Rattle.pk_check.specs.declared.entries.CheckedEntry.{CheckedEntry}
use Rattle.pk_check.specs.Deleted.{DeletionFailsAs, LeavesMany}
use Rattle.pk_check.specs.Entries.{ChecksEntryAs}
use Rattle.pk_check.proofs.CheckedLemmas.{entry_fails, entry_is, not_between}
use Rattle.pk_check.proofs.entries.check_entry.Goals as goal

pub returns-then-index-low-clause-checked : goal.returns-then-index-low-clause-checked
returns-then-index-low-clause-checked g c = λ honest.
    let bytes = g.D.Disk.content c.args.disk.now in
    let numbers = c.in_ok-numbers.numbers in
    not_between bytes c.args.entry c.args.low c.args.next numbers.items (c.in_ok-numbers.ensures.checked honest) c.index.result.now c.index-last.result.now (c.len.result - 1)
    c.index.ensures c.index-last.ensures (omega (arith, c.len.ensures, numbers.ok)) c.then-index-low.either

pub returns-in_err-left-clause-checked : goal.returns-in_err-left-clause-checked
returns-in_err-left-clause-checked g c = λ honest.
    let bytes = g.D.Disk.content c.args.disk.now in
    let e = c.args.entry in
    let seg = c.in_ok-numbers.ensures.checked honest in
    let found = err_from_is_err_and c.from_residual-in_err-left.result c.from_residual-in_err-left.ensures.1 in
    let none = c.in_err-left.ensures.deletes honest seg.documents (c.deref.ensures.value ∙ seg.numbers_are) seg.spelled.are.rising in
    let here = subst (λ (b : List ℕ). DeletionFailsAs b e.dead seg.documents c.in_err-left.field-0.0) (c.check_extent.ensures.left.keeps.read honest).bytes none in
    subst (λ (r : Result CheckedEntry ReadFault). ChecksEntryAs bytes e c.args.low c.args.next r) (sym (found.1 ∙ ap Err found.2))
    (entry_fails bytes e c.args.low c.args.next c.in_ok-numbers.numbers.items seg c.in_err-left.field-0.0 here)

pub returns-clause-checked : goal.returns-clause-checked
returns-clause-checked g c = λ honest.
    let bytes = g.D.Disk.content c.args.disk.now in
    let e = c.args.entry in
    let numbers = c.in_ok-numbers.numbers in
    let seg = c.in_ok-numbers.ensures.checked honest in
    let many = c.in_ok-left.ensures.deletes honest seg.documents (c.deref.ensures.value ∙ seg.numbers_are) seg.spelled.are.rising in
    let here = subst (λ (b : List ℕ). LeavesMany b e.dead seg.documents c.in_ok-left.left) (c.check_extent.ensures.left.keeps.read honest).bytes many in
    entry_is bytes e c.args.low c.args.next numbers.items seg c.index.result.now c.index-last.result.now (c.len.result - 1)
    c.index.ensures c.index-last.ensures (omega (arith, c.len.ensures, numbers.ok)) c.in_ok-left.left here (omega (arith, c.if-index-low.false)) (omega (arith, c.if-last-next.false))
