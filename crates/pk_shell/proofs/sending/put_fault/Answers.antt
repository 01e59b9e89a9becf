-- The text of each fault.
use Rattle.pk_shell.proofs.sending.put_fault.Goals as goal

pub returns-in-TooLong : goal.returns-in-TooLong
returns-in-TooLong g c = rw c.in-TooLong.is c.put.ensures

pub returns-in-Unexpected : goal.returns-in-Unexpected
returns-in-Unexpected g c = rw c.in-Unexpected.is c.put_number-in-Unexpected.ensures

pub returns-in-Unclosed : goal.returns-in-Unclosed
returns-in-Unclosed g c = rw c.in-Unclosed.is c.put_number-in-Unclosed.ensures
