-- The bytes up to the next one to be escaped are put as they are.
use Rattle.pk_shell.proofs.Escapes.{rest_put, split_behind, front_stops, escape_stops, escape_put}
use Rattle.pk_shell.proofs.Parts.{stopped_by}
use Rattle.pk_shell.proofs.sending.put_escaped.Goals as goal

pub returns-in_err-put : goal.returns-in_err-put
returns-in_err-put g c =
    let so_far = c.escapes.invariant in
    stopped_by c.from_residual.result _ _ _ _ _ _ c.from_residual.ensures.1
    (front_stops _ _ _ _ _ so_far.0 _ so_far.1 so_far.2 _ c.in-Some.ensures _ c.in_err-put.ensures)

pub returns-in_err-put-2 : goal.returns-in_err-put-2
returns-in_err-put-2 g c =
    let so_far = c.escapes.invariant in
    stopped_by c.from_residual-in_err-put-2.result _ _ _ _ _ _ c.from_residual-in_err-put-2.ensures.1
    (escape_stops _ _ _ _ _ so_far.0 _ so_far.1 so_far.2 _ c.in-Some.ensures _ _ c.in_ok-put.ensures _ c.escape.ensures _ c.in_err-put-2.ensures)

pub escapes-preserved : goal.escapes-preserved
escapes-preserved g c =
    let so_far = c.escapes.invariant in (
      _,
      split_behind _ _ _ _ _ so_far.0 c.escapes.rest.now so_far.1 so_far.2 _ c.in-Some.ensures,
      escape_put _ _ _ _ _ so_far.0 c.escapes.rest.now so_far.1 so_far.2 _ c.in-Some.ensures _ _ c.in_ok-put.ensures _ c.escape.ensures _ _ c.in_ok-put-2.ensures,
    )

pub returns : goal.returns
returns g c =
    let so_far = c.escapes.invariant in
    rest_put _ _ _ _ _ so_far.0 _ so_far.1 so_far.2 c.put-2.result _ _ c.in_default.ensures c.put-2.ensures
