-- Each token has a byte of its own.
use Rattle.pk_query.proofs.LexemeLemmas.{few_tokens}
use Rattle.pk_query.proofs.lexer.Lexer.of.Goals as goal

pub returns-clause-few : goal.returns-clause-few
returns-clause-few c = few_tokens 0 c.args.text.now
