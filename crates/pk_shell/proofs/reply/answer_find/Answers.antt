-- The query text reads, or has its fault.
use Rattle.std.proofs.Common.{inl, inr, refl}
use Rattle.pk_model.specs.Tree.{tree_of}
use Rattle.pk_model.specs.Views.{reply_of}
use Rattle.pk_shell.proofs.reply.answer_find.Goals as goal

pub returns-in-Ok-clause-reply : goal.returns-in-Ok-clause-reply
returns-in-Ok-clause-reply g c = inl (tree_of c.in-Ok.query, reply_of c.reply_to_query.result, c.in-Ok.ensures.reads, c.reply_to_query.ensures, refl)

pub returns-in-Err-clause-reply : goal.returns-in-Err-clause-reply
returns-in-Err-clause-reply g c = inr (c.in-Err.fault, c.in-Err.ensures.fault, refl, refl)
