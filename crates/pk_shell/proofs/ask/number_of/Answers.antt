-- Digits that std reads as no number are 2^32 or more.
use Rattle.std.proofs.Common.{sym, ◌∙◌}
use Rattle.pk_shell.proofs.AskLemmas.{number_refused}
use Rattle.pk_shell.proofs.ask.number_of.Goals as goal

pub returns-in-Err : goal.returns-in-Err
returns-in-Err c = sym (number_refused c.args.text.now (sym c.is_short_numeral.ensures ∙ c.if-not-is_short_numeral.false) c.in-Err.ensures.value.0)
