-- The law by the lemma on tokens with a space between each two.
use Rattle.pk_query.specs.Tokens.{tokens}
use Rattle.pk_query.proofs.Spelling.{read_spelled}
use Rattle.pk_query.proofs.ProperText.{proper_tokens}
use Rattle.pk_query.proofs.laws.tokens_are_read_back.Goals as goal

pub returns : goal.returns
returns c = λ text u. read_spelled (tokens text) (proper_tokens text u)
