-- A line that is text asks what its text asks.
use Rattle.std.proofs.Common.{◌≡◌, sym, ◌∙◌, ap, subst}
use Rattle.std.specs.Prelude.{codes, ◌++◌}
use Rattle.pk_shell.specs.Asked.{asked_short, asked_text, is_quit}
use Rattle.pk_shell.specs.AskView.{line_asks}
use Rattle.pk_shell.specs.Response.{response_text}
use Rattle.pk_shell.proofs.AskLemmas.{short_text, short_not_text}
use Rattle.pk_shell.proofs.reply.answer_to.Goals as goal

pub returns-in-Ok-clause-reply : goal.returns-in-Ok-clause-reply
returns-in-Ok-clause-reply g c =
    let what : asked_short c.args.line.now ≡ line_asks c.ask_of.result = short_text _ c.in-Ok.ensures.cases.1 ∙ ap asked_text (sym c.in-Ok.ensures.cases.0) ∙ sym c.ask_of.ensures in
    subst (λ a. g.E.Engine.replies c.args.engine.now a (response_text c.answer.result) c.answer.new.self) (sym what) c.answer.ensures.reply

pub returns-in-Ok-clause-bye : goal.returns-in-Ok-clause-bye
returns-in-Ok-clause-bye g c =
    let what : asked_short c.args.line.now ≡ line_asks c.ask_of.result = short_text _ c.in-Ok.ensures.cases.1 ∙ ap asked_text (sym c.in-Ok.ensures.cases.0) ∙ sym c.ask_of.ensures in
    c.answer.ensures.bye ∙ ap is_quit (sym what)

pub returns-in-Err-clause-reply : goal.returns-in-Err-clause-reply
returns-in-Err-clause-reply g c =
    let what = short_not_text c.args.line.now _ c.in-Err.ensures.cases.1.front c.in-Err.ensures.valid_len c.in-Err.ensures.cases.0 in
    subst (λ a. g.E.Engine.replies c.args.engine.now a (codes "refused " ++ codes "not text") c.args.engine.now) (sym what) (g.met.E.Engine.refuses_unasked c.args.engine.now (codes "not text"))

pub returns-in-Err-clause-bye : goal.returns-in-Err-clause-bye
returns-in-Err-clause-bye g c =
    let what = short_not_text c.args.line.now _ c.in-Err.ensures.cases.1.front c.in-Err.ensures.valid_len c.in-Err.ensures.cases.0 in
    ap is_quit (sym what)
