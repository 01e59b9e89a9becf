-- The shell's own refusals.
use Rattle.pk_shell.proofs.sending.put_response.Goals as goal

pub returns-in-LineTooLong : goal.returns-in-LineTooLong
returns-in-LineTooLong g c = rw c.in-LineTooLong.is c.put-in-LineTooLong.ensures

pub returns-in-NotText : goal.returns-in-NotText
returns-in-NotText g c = rw c.in-NotText.is c.put-in-NotText.ensures

pub returns-in-Unknown : goal.returns-in-Unknown
returns-in-Unknown g c = rw c.in-Unknown.is c.put-in-Unknown.ensures

pub returns-in-ReadOnly : goal.returns-in-ReadOnly
returns-in-ReadOnly g c = rw c.in-ReadOnly.is c.put-in-ReadOnly.ensures
