-- A line that is too long is refused before the engine is asked.
use Rattle.std.proofs.Common.{◌≡◌, ℕ, List, Option, None, sym, ◌∙◌, ap, subst}
use Rattle.std.specs.Option.{option_copied}
use Rattle.std.specs.Prelude.{codes, ◌++◌}
use Rattle.pk_shell.specs.Asked.{asked_held}
use Rattle.pk_shell.proofs.reply.answer_held.Goals as goal

pub returns-in-None-clause-reply : goal.returns-in-None-clause-reply
returns-in-None-clause-reply g c =
    let held : c.args.line.now ≡ None = sym c.held.ensures ∙ ap option_copied c.in-None.is in
    subst (λ (h : Option (List ℕ)). g.E.Engine.replies c.args.engine.now (asked_held h) (codes "refused " ++ codes "line too long") c.args.engine.now) (sym held)
    (g.met.E.Engine.refuses_unasked c.args.engine.now (codes "line too long"))
