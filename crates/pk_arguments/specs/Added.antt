-- What a command that is added makes of a program's command line.
use Rattle.std.specs.Prelude.{◌≡◌, Result, Ok, Err, true}
use Rattle.std.specs.declared.alloc.AllocError.{AllocError}
use Rattle.clap.specs.Words.{App, app_of, with_subcommand}
use Rattle.clap.specs.declared.builder.command.Command.{Command}

-- `new` is `old` with this command behind the others, where that has no global argument
abbrev pub IsWith : App → Result Command AllocError → App → Type 0
IsWith old (Ok command) new = (app_of command).top.is_plain ≡ true
    → new ≡ with_subcommand old (app_of command).top
IsWith old (Err fault) new = ⊥
