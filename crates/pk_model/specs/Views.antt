-- The types of the code as the definitions see them.
use Rattle.std.specs.Prelude.{ℕ, List, map, string_bytes, Result, Ok, Err}
use Rattle.pk_model.specs.declared.documents.DocNo.{DocNo}
use Rattle.pk_model.specs.declared.documents.Document.{Document}
use Rattle.pk_model.specs.declared.commands.Command.{Command}
use Rattle.pk_model.specs.declared.commands.Command.TheVariants.{Add, Delete, Find, Show, Commit, Merge, Tidy, Count}
use Rattle.pk_model.specs.declared.commands.Reply.{Reply}
use Rattle.pk_model.specs.declared.commands.Reply.TheVariants.{Added, Deleted, Found, Text, Committed, Merged, Tidied, Counted, Refused}
use Rattle.pk_model.specs.declared.commands.Refusal.{Refusal}
use Rattle.pk_model.specs.Collection.{Doc}
use Rattle.pk_model.specs.Steps.{Request, Answer, add, delete, find, show, commit, merge, tidy, count, added, deleted, found, text_is, committed, merged, tidied, counted}
use Rattle.pk_model.specs.Tree.{tree_of}

-- a document of the code
abbrev pub doc_of : Document → Doc
doc_of d = record { number = d.number.0; text = string_bytes d.text }

-- the numbers in a reply
abbrev pub numbers_in : List DocNo → List ℕ
numbers_in ns = map (λ (n : DocNo). n.0) ns

-- a command of the code
abbrev pub request_of : Command → Request
request_of (Add text) = add (string_bytes text)
request_of (Delete n) = delete n.0
request_of (Find query) = find (tree_of query)
request_of (Show n) = show n.0
request_of Commit = commit
request_of Merge = merge
request_of Tidy = tidy
request_of Count = count

-- a reply of the code
abbrev pub reply_of : Reply → Result Answer Refusal
reply_of (Added n) = Ok (added n.0)
reply_of (Deleted n) = Ok (deleted n.0)
reply_of (Found ns) = Ok (found (numbers_in ns.items))
reply_of (Text t) = Ok (text_is (string_bytes t))
reply_of Committed = Ok committed
reply_of Merged = Ok merged
reply_of Tidied = Ok tidied
reply_of (Counted c) = Ok (counted c.documents c.next)
reply_of (Refused why) = Err why
