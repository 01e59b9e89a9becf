-- What a reader is asked, and what of that it takes.
use Rattle.std.specs.Prelude.{codes}
use Rattle.pk_model.specs.Steps.{Request, add, delete, find, show, commit, merge, tidy, count}
use Rattle.pk_model.specs.Tree.{tree_of}
use Rattle.pk_reader.specs.declared.question.Question.{Question}
use Rattle.pk_reader.specs.declared.question.Question.TheVariants as question
use Rattle.pk_shell.specs.Asked.{Asked, does, queries, quits, refuses}

-- a question as a command
abbrev pub request_of : Question → Request
request_of (question.Find query) = find (tree_of query.now)
request_of (question.Show n) = show n.0
request_of question.Count = count

-- what a line asks of a reader: a command that changes the store is refused
abbrev pub command_read : Request → Asked
command_read (add text) = refuses (codes "read only")
command_read (delete n) = refuses (codes "read only")
command_read (find query) = does (find query)
command_read (show n) = does (show n)
command_read commit = refuses (codes "read only")
command_read merge = refuses (codes "read only")
command_read tidy = refuses (codes "read only")
command_read count = does count

abbrev pub read_only : Asked → Asked
read_only (does request) = command_read request
read_only (refuses why) = refuses why
read_only (queries text) = queries text
read_only quits = quits
