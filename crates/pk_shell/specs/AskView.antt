-- What the code found a line to ask.
use Rattle.std.specs.Prelude.{codes}
use Rattle.pk_model.specs.Steps.{add, delete, show, commit, merge, tidy, count}
use Rattle.pk_shell.specs.Asked.{Asked, refuses, does, queries, quits}
use Rattle.pk_shell.specs.declared.ask.Ask.{Ask}
use Rattle.pk_shell.specs.declared.ask.Ask.TheVariants.{Add, Delete, Find, Show, Commit, Merge}
use Rattle.pk_shell.specs.declared.ask.Ask.TheVariants.{Tidy, Count, Quit, Unknown}

-- the value of the code, as the definitions say it
abbrev pub line_asks : Ask → Asked
line_asks (Add text) = does (add text.now)
line_asks (Delete n) = does (delete n.0)
line_asks (Find text) = queries text.now
line_asks (Show n) = does (show n.0)
line_asks Commit = does commit
line_asks Merge = does merge
line_asks Tidy = does tidy
line_asks Count = does count
line_asks Quit = quits
line_asks Unknown = refuses (codes "unknown")
