-- Each command is added to those before it.
use Rattle.std.proofs.Common.{ap, refl, true, ◌≡◌, ◌∙◌, IfOk, Ok, Err, Result}
use Rattle.std.proofs.lemmas.Result.{IfOk-weaker}
use Rattle.std.specs.declared.alloc.AllocError.{AllocError}
use Rattle.clap.specs.Words.{App, app_of, with_subcommand}
use Rattle.clap.specs.declared.builder.command.Command.{Command}
use Rattle.pk_arguments.specs.Added.{IsWith}
use Rattle.pk_arguments.specs.CommandLine.{check_app, create_app, grow_app, read_app, run_app}
use Rattle.pk_arguments.proofs.command_line.program.Goals as goal

-- a plain command stands behind those before it
added : (command : Result Command AllocError) (wanted before old new : App) → wanted.top.is_plain ≡ true
    → IfOk command (λ c. app_of c ≡ wanted) → IsWith old command new → old ≡ before
    → new ≡ with_subcommand before wanted.top
added (Ok command) wanted before old new is_plain is adds is_old = adds (ap (λ (a : App). a.top.is_plain) is ∙ is_plain)
    ∙ ap (λ (a : App). with_subcommand old a.top) is ∙ ap (λ (a : App). with_subcommand a wanted.top) is_old
added (Err fault) wanted before old new is_plain is adds is_old = absurd adds

pub returns : goal.returns
returns c =
    let with_create = added c.create.result create_app _ _ _ refl c.create.ensures.app c.in_ok-program.ensures c.bare.ensures in
    let with_grow = added c.grow.result grow_app _ _ _ refl c.grow.ensures.app c.in_ok-program-2.ensures with_create in
    let with_run = added c.run.result run_app _ _ _ refl c.run.ensures.app c.in_ok-program-3.ensures with_grow in
    let with_read = added c.read.result read_app _ _ _ refl c.read.ensures.app c.in_ok-program-4.ensures with_run in
    IfOk-weaker c.with-5.result _ _
    (λ p adds. added c.check.result check_app _ _ _ refl c.check.ensures.app adds with_read) c.with-5.ensures
