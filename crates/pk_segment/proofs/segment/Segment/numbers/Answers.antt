-- The numbers of all entries are those of the documents.
use Rattle.std.proofs.Common.{◌≡◌, ◌∙◌, sym, subst, arith, ℕ, Result}
use Rattle.std.specs.Global.{Vec}
use Rattle.std.proofs.lemmas.Result.{err_from_is_err_and}
use Rattle.pk_posting.specs.declared.fault.ReadFault.{ReadFault}
use Rattle.pk_segment.specs.Reading.{IsNoDamage, NumbersAs}
use Rattle.pk_segment.proofs.DirectoryLemmas.{all_numbers}
use Rattle.pk_segment.proofs.segment.Segment.numbers.Goals as goal

pub returns-in_err-directory-clause-directory : goal.returns-in_err-directory-clause-directory
returns-in_err-directory-clause-directory g c = λ honest docs kind is of.
    let found = err_from_is_err_and c.from_residual.result c.from_residual.ensures.1 in
    let cause = c.in_err-directory.ensures.directory honest docs kind is of in
    subst (λ (r : Result (Vec ℕ) ReadFault). NumbersAs docs r) (sym found.1)
    (subst (λ (f : ReadFault). IsNoDamage f) (sym found.2) cause)

pub returns-clause-directory : goal.returns-clause-directory
returns-clause-directory g c = λ honest docs kind is of.
    let all : c.loop-i.i ≡ c.args.self.now.count = omega (arith, c.loop-i-test.false, c.loop-i.auto.i-end) in
    c.loop-i.invariant honest ∙ all_numbers (g.S.ByteSource.content c.args.source.now) docs kind c.loop-i.i is (all ∙ of.count_is)
