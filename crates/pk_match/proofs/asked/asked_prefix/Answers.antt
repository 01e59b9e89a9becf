-- What stands at a place; nothing past the last word.
use Rattle.std.proofs.Common.{arith}
use Rattle.pk_plan.proofs.PrefixLemmas.{prefix_there, no_prefix_there}
use Rattle.pk_match.proofs.asked.asked_prefix.Goals as goal

pub returns-then-place-words : goal.returns-then-place-words
returns-then-place-words c = no_prefix_there c.args.words.now c.args.place (omega arith)

pub returns : goal.returns
returns c = prefix_there c.args.words.now c.args.place _ (omega arith)
