-- Each ending, from what was read so far.
use Rattle.std.proofs.Common.{◌<◌, ◌∙◌, [], refl, sym, length, arith, rules}
use Rattle.std.proofs.lemmas.Grind.{common_steps}
use Rattle.std.proofs.lemmas.Result.{err_from_is_err_and}
use Rattle.pk_shell.proofs.ReadLemmas.{started, came, some_came, few_came, few_read, read_end, goes_on, quits, is_cut, fails, too_many, ends, last_quits, last_ends, last_cut}
use Rattle.pk_shell.proofs.ReadLemmas.{all_taken, consumes_kept_none, takes, takes_none}
use Rattle.pk_shell.proofs.serving.serve_engine.Goals as goal

pub loop-init : goal.loop-init
loop-init g c = started _ _ _ _ _ c.in_ok-line.ensures

pub returns-in-Err-clause-ends : goal.returns-in-Err-clause-ends
returns-in-Err-clause-ends g c = fails _ _ _ _ _ _ _ _ _ _ c.loop.invariant c.in-Err.ensures.bytes

pub returns-then-is_blank-clause-ends : goal.returns-then-is_blank-clause-ends
returns-then-is_blank-clause-ends g c =
    let room : 0 < length c.read.new.buf = search rules in
    let e = read_end _ _ _ _ c.in-Ok-eq0.field-0-test c.in-Ok-eq0.ensures.bytes room in
    ends _ _ _ _ _ _ _ _ _ _ c.loop.invariant e.0 e.1 (sym c.is_blank.ensures ∙ c.if-is_blank.true)

pub returns-in_err-quits-in-Ok-eq0-clause-ends : goal.returns-in_err-quits-in-Ok-eq0-clause-ends
returns-in_err-quits-in-Ok-eq0-clause-ends g c =
    let room : 0 < length c.read.new.buf = search rules in
    let e = read_end _ _ _ _ c.in-Ok-eq0.field-0-test c.in-Ok-eq0.ensures.bytes room in
    let why = err_from_is_err_and c.from_residual-in_err-quits-in-Ok-eq0.result c.from_residual-in_err-quits-in-Ok-eq0.ensures.1 in
    rw (why.1, why.2)
    (last_cut _ _ _ _ _ _ _ _ _ _ c.loop.invariant e.0 e.1 _ _ (sym c.is_blank.ensures ∙ c.if-is_blank.false) _ c.in_err-quits-in-Ok-eq0.ensures)

pub returns-then-quits-clause-ends : goal.returns-then-quits-clause-ends
returns-then-quits-clause-ends g c =
    let room : 0 < length c.read.new.buf = search rules in
    let e = read_end _ _ _ _ c.in-Ok-eq0.field-0-test c.in-Ok-eq0.ensures.bytes room in
    last_quits _ _ _ _ _ _ _ _ _ _ c.loop.invariant e.0 e.1 _ _ (sym c.is_blank.ensures ∙ c.if-is_blank.false) (rw c.if-quits.true at c.in_ok-quits-in-Ok-eq0.ensures)

pub returns-in-Ok-eq0-clause-ends : goal.returns-in-Ok-eq0-clause-ends
returns-in-Ok-eq0-clause-ends g c =
    let room : 0 < length c.read.new.buf = search rules in
    let e = read_end _ _ _ _ c.in-Ok-eq0.field-0-test c.in-Ok-eq0.ensures.bytes room in
    last_ends _ _ _ _ _ _ _ _ _ _ c.loop.invariant e.0 e.1 _ _ (sym c.is_blank.ensures ∙ c.if-is_blank.false) (rw c.if-quits.false at c.in_ok-quits-in-Ok-eq0.ensures)

pub returns-in_err-answer_lines-in-Ok-clause-ends : goal.returns-in_err-answer_lines-in-Ok-clause-ends
returns-in_err-answer_lines-in-Ok-clause-ends g c =
    let why = err_from_is_err_and c.from_residual-in_err-answer_lines-in-Ok.result c.from_residual-in_err-answer_lines-in-Ok.ensures.1 in
    rw (why.1, why.2)
    (is_cut _ _ _ _ _ _ _ _ _ _ c.loop.invariant _ (came _ _ _ _ _ c.in-Ok.ensures.bytes.0 (grind (arith, common_steps))) _ _ c.in_err-answer_lines-in-Ok.ensures)

pub returns-then-branch-clause-ends : goal.returns-then-branch-clause-ends
returns-then-branch-clause-ends g c =
    quits _ _ _ _ _ _ _ _ _ _ c.loop.invariant _ (came _ _ _ _ _ c.in-Ok.ensures.bytes.0 (grind (arith, common_steps))) _ _ (rw c.if-branch.true at c.in_ok-answer_lines-in-Ok.ensures)

pub loop-preserved : goal.loop-preserved
loop-preserved g c =
    goes_on _ _ _ _ _ _ _ _ _ _ c.loop.invariant _ (came _ _ _ _ _ c.in-Ok.ensures.bytes.0 (grind (arith, common_steps))) _ _ _
    (some_came _ _ _ c.in-Ok.ensures.bound.0 c.in-Ok.n-test.1 (grind (arith, common_steps)))
    (few_read _ _ _ c.read.new.buf _ c.in-Ok.ensures.bytes.0 (search rules) (grind (arith, common_steps)))
    (rw c.if-branch.false at c.in_ok-answer_lines-in-Ok.ensures)

pub returns-clause-ends : goal.returns-clause-ends
returns-clause-ends g c = too_many _ _ _ _ _ _ _ _ _ c.loop.invariant (omega (arith, c.loop-test.false))

pub returns-in-Err-clause-taken : goal.returns-in-Err-clause-taken
returns-in-Err-clause-taken g c =
    takes _ _ _ _ _ _ _ _ _ _ c.loop.invariant [] (consumes_kept_none _ _ c.in-Err.ensures.bytes) (omega arith) (omega (arith, c.loop-test.true))

pub returns-then-is_blank-clause-taken : goal.returns-then-is_blank-clause-taken
returns-then-is_blank-clause-taken g c =
    takes _ _ _ _ _ _ _ _ _ _ c.loop.invariant _ c.in-Ok-eq0.ensures.bytes.0 (few_came _ c.read.new.buf _ (search rules) refl) (omega (arith, c.loop-test.true))

pub returns-in_err-quits-in-Ok-eq0-clause-taken : goal.returns-in_err-quits-in-Ok-eq0-clause-taken
returns-in_err-quits-in-Ok-eq0-clause-taken g c =
    takes _ _ _ _ _ _ _ _ _ _ c.loop.invariant _ c.in-Ok-eq0.ensures.bytes.0 (few_came _ c.read.new.buf _ (search rules) refl) (omega (arith, c.loop-test.true))

pub returns-then-quits-clause-taken : goal.returns-then-quits-clause-taken
returns-then-quits-clause-taken g c =
    takes _ _ _ _ _ _ _ _ _ _ c.loop.invariant _ c.in-Ok-eq0.ensures.bytes.0 (few_came _ c.read.new.buf _ (search rules) refl) (omega (arith, c.loop-test.true))

pub returns-in-Ok-eq0-clause-taken : goal.returns-in-Ok-eq0-clause-taken
returns-in-Ok-eq0-clause-taken g c =
    takes _ _ _ _ _ _ _ _ _ _ c.loop.invariant _ c.in-Ok-eq0.ensures.bytes.0 (few_came _ c.read.new.buf _ (search rules) refl) (omega (arith, c.loop-test.true))

pub returns-in_err-answer_lines-in-Ok-clause-taken : goal.returns-in_err-answer_lines-in-Ok-clause-taken
returns-in_err-answer_lines-in-Ok-clause-taken g c =
    takes _ _ _ _ _ _ _ _ _ _ c.loop.invariant _ c.in-Ok.ensures.bytes.0 (few_came _ c.read.new.buf _ (search rules) refl) (omega (arith, c.loop-test.true))

pub returns-then-branch-clause-taken : goal.returns-then-branch-clause-taken
returns-then-branch-clause-taken g c =
    takes _ _ _ _ _ _ _ _ _ _ c.loop.invariant _ c.in-Ok.ensures.bytes.0 (few_came _ c.read.new.buf _ (search rules) refl) (omega (arith, c.loop-test.true))

pub returns-clause-taken : goal.returns-clause-taken
returns-clause-taken g c = all_taken _ _ _ _ _ _ _ _ _ c.loop.invariant (omega (arith, c.loop-test.false))

pub returns-in_err-line-clause-taken : goal.returns-in_err-line-clause-taken
returns-in_err-line-clause-taken g c = takes_none _ _

pub returns-in_err-outbox-clause-taken : goal.returns-in_err-outbox-clause-taken
returns-in_err-outbox-clause-taken g c = takes_none _ _
