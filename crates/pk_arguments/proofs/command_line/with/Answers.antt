-- A plain command brings no global argument along.
use Rattle.std.proofs.Common.{Bool, ◌&&◌, not, refl, sym, subst, true, false, ◌≡◌}
use Rattle.std.proofs.lemmas.Result.{IfOk-weaker}
use Rattle.clap.specs.Words.{app_of}
use Rattle.pk_arguments.specs.Added.{IsWith}
use Rattle.pk_arguments.proofs.command_line.with.Goals as goal

local : (groups external globals others : Bool)
    → (groups && (not external && (not globals && others))) ≡ true → globals ≡ false
local true false false others is = refl
local true false true others is = sym is
local true true globals others is = absurd (cc)
local false external globals others is = absurd (cc)

pub returns : goal.returns
returns c = IfOk-weaker c.subcommand.result _ _
    (λ r h. subst (λ command. IsWith (app_of c.args.program) command (app_of r)) (sym c.in_ok-command.was)
    (λ plain. h.shape (local _ _ _ _ plain))) c.subcommand.ensures
