-- What the code answers to a line, as the definitions spell it.
use Rattle.std.specs.Prelude.{ℕ, Bool, true, false, List, ◌++◌, codes}
use Rattle.pk_model.specs.Views.{reply_of}
use Rattle.pk_shell.specs.ReplyText.{reply_text, fault_text}
use Rattle.pk_shell.specs.declared.reply.Response.{Response}
use Rattle.pk_shell.specs.declared.reply.Response.TheVariants.{Bye, LineTooLong, NotText, Unknown}
use Rattle.pk_shell.specs.declared.reply.Response.TheVariants.{ReadOnly, QueryRefused, Replied}

-- the reply line without its line feed
abbrev pub response_text : Response → List ℕ
response_text Bye = codes "bye"
response_text LineTooLong = codes "refused " ++ codes "line too long"
response_text NotText = codes "refused " ++ codes "not text"
response_text Unknown = codes "refused " ++ codes "unknown"
response_text ReadOnly = codes "refused " ++ codes "read only"
response_text (QueryRefused fault) = codes "refused " ++ fault_text fault
response_text (Replied reply) = reply_text (reply_of reply)

-- it ends the session
abbrev pub is_bye : Response → Bool
is_bye Bye = true
is_bye LineTooLong = false
is_bye NotText = false
is_bye Unknown = false
is_bye ReadOnly = false
is_bye (QueryRefused fault) = false
is_bye (Replied reply) = false
