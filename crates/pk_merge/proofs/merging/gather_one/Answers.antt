-- The number is above the last one, and the document is kept just where the list has it not.
use Rattle.std.proofs.Common.{◌∙◌, ◌≡◌, ◌∷◌, [], ◌+◌, ◌++◌, sym, subst, arith, drop, false, ℕ}
use Rattle.pk_join.proofs.DocLemmas.{doc_got}
use Rattle.pk_model.specs.Views.{doc_of}
use Rattle.pk_segment.specs.Directory.{doc_in}
use Rattle.pk_state.specs.Committed.{lists}
use Rattle.pk_merge.specs.Gathering.{GathersAs, docs_in, left_by}
use Rattle.pk_merge.proofs.FaultLemmas.{passed_on}
use Rattle.pk_merge.proofs.GatherLemmas.{fails_read, keeps, passes}
use Rattle.pk_merge.proofs.RiseLemmas.{comes}
use Rattle.pk_merge.proofs.merging.gather_one.Goals as goal

pub returns-then-number-last-clause-gathered : goal.returns-then-number-last-clause-gathered
returns-then-number-last-clause-gathered g c = λ honest docs more kind is of read rise.
    let next = comes _ docs more kind c.args.i c.args.gathered.now.last _ read c.requires
    (c.number-number.ensures.documents docs kind read) rise in
    omega (arith, next.above, c.if-number-last.true, c.last.ensures)

pub returns-then-contains-clause-gathered : goal.returns-then-contains-clause-gathered
returns-then-contains-clause-gathered g c = λ honest docs more kind is of read rise.
    let i = c.args.i in
    let next = comes _ docs more kind i c.args.gathered.now.last _ read c.requires
    (c.number-number.ensures.documents docs kind read) rise in
    passes c.args.gathered.now c.pass.new.self c.args.opened.now.dead.now (doc_in docs i)
    (drop (i + 1) docs ++ more) c.number-number.result c.pass.ensures.documents c.pass.ensures.last
    next.number (sym c.contains.ensures ∙ c.if-contains.true) next.rise

pub returns-in_err-document-clause-gathered : goal.returns-in_err-document-clause-gathered
returns-in_err-document-clause-gathered g c = λ honest docs more kind is of read rise.
    let left = left_by c.args.opened.now.dead.now (doc_in docs c.args.i ∷ []) in
    passed_on
    (GathersAs left (drop (c.args.i + 1) docs ++ more) c.args.gathered.now c.args.gathered.now)
    c.from_residual.result c.from_residual.ensures.1
    (fails_read (docs_in c.args.gathered.now ++ left) c.in_err-document.field-0.0
    (c.in_err-document.ensures.spelled honest docs kind is of read))

pub returns-clause-gathered : goal.returns-clause-gathered
returns-clause-gathered g c = λ honest docs more kind is of read rise.
    let i = c.args.i in
    let next = comes _ docs more kind i c.args.gathered.now.last _ read c.requires
    (c.number-number.ensures.documents docs kind read) rise in
    let got = doc_got docs i (doc_of c.in_ok-document.document)
    (c.in_ok-document.ensures.spelled honest docs kind is of read) in
    let none = subst (λ (n : ℕ). lists n c.args.opened.now.dead.now ≡ false) next.number
    (sym c.contains.ensures ∙ c.if-contains.false) in
    keeps c.args.gathered.now c.keep.new.self c.args.opened.now.dead.now (doc_in docs i)
    (doc_of c.in_ok-document.document) (drop (i + 1) docs ++ more) c.keep.result
    got none next.rise c.keep.ensures
