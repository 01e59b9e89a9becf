-- Each line that ends in the chunk, and then what follows the last line feed.
use Rattle.pk_shell.proofs.Answering.{all_taken, answers_cut, cut_taken, line_taken, none_taken, quit_taken}
use Rattle.pk_shell.proofs.serving.answer_lines.Goals as goal

pub lines-init : goal.lines-init
lines-init g c = none_taken _ _ _ _ _

pub returns-in_err-quits : goal.returns-in_err-quits
returns-in_err-quits g c =
    answers_cut _ _ _ _ _ c.from_residual.result _ _ _ _ c.from_residual.ensures.1
    (cut_taken _ _ _ _ _ c.lines.rest.now _ _ _ c.lines.invariant _ c.in-Some.ensures _ c.extend.ensures _ _ _ c.in_err-quits.ensures)

pub returns-then-quits : goal.returns-then-quits
returns-then-quits g c =
    quit_taken _ _ _ _ _ c.lines.rest.now _ _ _ c.lines.invariant _ c.in-Some.ensures _ c.extend.ensures _ _ (rw c.if-quits.true at c.in_ok-quits.ensures)

pub lines-preserved : goal.lines-preserved
lines-preserved g c =
    line_taken _ _ _ _ _ c.lines.rest.now _ _ _ c.lines.invariant _ c.in-Some.ensures _ c.extend.ensures _ _ _ c.clear.ensures (rw c.if-quits.false at c.in_ok-quits.ensures)

pub returns : goal.returns
returns g c = all_taken _ _ _ _ _ c.lines.rest.now _ _ _ c.lines.invariant _ c.in_default.ensures c.extend-2.ensures
