-- A line is parted at its first space, if it has one.
use Rattle.std.proofs.Common.{sym, ◌∙◌}
use Rattle.pk_shell.proofs.AskLemmas.{split_none, split_some}
use Rattle.pk_shell.proofs.ask.ask_of.Goals as goal

pub returns-in-None : goal.returns-in-None
returns-in-None c = c.ask_alone.ensures ∙ sym (split_none c.args.line.now (rw c.in-None.is at c.split_once.ensures.cases))

pub returns-in-Some : goal.returns-in-Some
returns-in-Some c = c.ask_with.ensures ∙ sym (split_some c.args.line.now c.in-Some.word c.in-Some.rest (rw c.in-Some.is at c.split_once.ensures.cases))
