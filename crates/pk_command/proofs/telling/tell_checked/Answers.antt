-- Each number behind its words, and then the line feed.
use Rattle.pk_command.proofs.ReportLemmas.{sent_then, stopped_then}
use Rattle.pk_shell.proofs.Parts.{stopped_before, unsent_by}
use Rattle.pk_command.proofs.telling.tell_checked.Goals as goal

pub returns-in_err-write_number : goal.returns-in_err-write_number
returns-in_err-write_number g c = unsent_by c.from_residual.result _ _ _ _ c.from_residual.ensures.1 (stopped_before _ _ _ _ c.in_err-write_number.ensures)

pub returns-in_err-write_number-2 : goal.returns-in_err-write_number-2
returns-in_err-write_number-2 g c =
    let next = rw c.from.ensures at c.in_err-write_number-2.ensures in
    unsent_by c.from_residual-in_err-write_number-2.result _ _ _ _ c.from_residual-in_err-write_number-2.ensures.1
    (stopped_then _ _ _ _ _ c.in_ok-write_number.ensures (stopped_before _ _ _ _ next))

pub returns-in_err-write_number-3 : goal.returns-in_err-write_number-3
returns-in_err-write_number-3 g c =
    let next = rw c.from.ensures at c.in_ok-write_number-2.ensures in
    let segments = rw c.from-2.ensures at c.in_err-write_number-3.ensures in
    unsent_by c.from_residual-in_err-write_number-3.result _ _ _ _ c.from_residual-in_err-write_number-3.ensures.1
    (stopped_then _ _ _ _ _ c.in_ok-write_number.ensures (stopped_then _ _ _ _ _ next (stopped_before _ _ _ _ segments)))

pub returns : goal.returns
returns g c =
    let next = rw c.from.ensures at c.in_ok-write_number-2.ensures in
    let segments = rw c.from-2.ensures at c.in_ok-write_number-3.ensures in
    let sent = c.write_all.result in
    sent_then _ _ _ sent _ _ c.in_ok-write_number.ensures (sent_then _ _ _ sent _ _ next (sent_then _ _ _ sent _ _ segments c.write_all.ensures))
