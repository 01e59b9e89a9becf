-- What the entries stand for is what the disk holds.
use Rattle.std.proofs.Common.{◌∙◌, List, Result, Err, length, refl, sym, ap, subst, arith}
use Rattle.std.proofs.lemmas.Result.{err_from_is_err_and}
use Rattle.pk_check.specs.declared.body.Checked.{Checked}
use Rattle.pk_check.specs.Entries.{EntriesFailAs, StandsFor}
use Rattle.pk_check.specs.Holding.{ChecksBodyAs}
use Rattle.pk_manifest.specs.declared.manifest.Part.{Part as Entry}
use Rattle.pk_manifest.specs.Spelling.{view}
use Rattle.pk_posting.specs.declared.fault.ReadFault.{ReadFault}
use Rattle.pk_state.specs.Kept.{LieInside}
use Rattle.pk_state.proofs.HoldsLemmas.{lie_inside}
use Rattle.pk_check.proofs.BodyLemmas.{fault_held, stands_checked}
use Rattle.pk_check.proofs.body.check_body.Goals as goal

pub check_entries-requires-clause-inside : goal.check_entries-requires-clause-inside
check_entries-requires-clause-inside g c =
    let bytes = g.D.Disk.content c.args.disk.now in
    subst (λ (es : List Entry). LieInside (length bytes) es) (sym c.deref.ensures.value) (lie_inside bytes (view c.args.body.now) c.requires)

pub returns-in_err-documents-clause-checked : goal.returns-in_err-documents-clause-checked
returns-in_err-documents-clause-checked g c = λ honest half has.
    let bytes = g.D.Disk.content c.args.disk.now in
    let b = view c.args.body.now in
    let fault = c.in_err-documents.field-0.0 in
    let here : EntriesFailAs bytes b.entries b.next_number fault =
    subst (λ (es : List Entry). EntriesFailAs bytes es b.next_number fault) c.deref.ensures.value (c.in_err-documents.ensures.checked honest) in
    let found = err_from_is_err_and c.from_residual.result c.from_residual.ensures.1 in
    subst (λ (r : Result Checked ReadFault). ChecksBodyAs bytes r) (sym (found.1 ∙ ap Err found.2))
    (fault_held bytes half b has fault here)

pub returns-clause-checked : goal.returns-clause-checked
returns-clause-checked g c = λ honest half has.
    let bytes = g.D.Disk.content c.args.disk.now in
    let b = view c.args.body.now in
    let n = c.in_ok-documents.documents in
    let here : StandsFor bytes b.entries b.next_number n =
    subst (λ (es : List Entry). StandsFor bytes es b.next_number n) c.deref.ensures.value (c.in_ok-documents.ensures.checked honest) in
    let answer : Checked = record { documents = n; next = b.next_number; segments = c.len.result } in
    stands_checked bytes half b has n answer here refl (record { next = refl; segments = omega (arith, c.len.ensures, c.args.body.now.entries.ok) })
