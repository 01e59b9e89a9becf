-- What the piece has of a number, the dictionary's bytes have.
use Rattle.std.proofs.Common.{arith}
use Rattle.pk_dict.proofs.Pieces.{number_near, one_near}
use Rattle.pk_dict.proofs.near.number_in.Goals as goal

pub returns-in-Ok-clause-value : goal.returns-in-Ok-clause-value
returns-in-Ok-clause-value c bytes p = number_near bytes c.args.start c.args.at c.args.piece.now (c.in-Ok.n, c.in-Ok.taken) p c.requires.after (omega (arith, c.if-piece-from.false)) c.in-Ok.ensures.exact

pub returns-then-first-ge128-clause-value : goal.returns-then-first-ge128-clause-value
returns-then-first-ge128-clause-value c bytes p = one_near bytes c.args.start c.args.at c.from.result c.args.piece.now p c.requires.after (omega arith) (omega arith) (omega arith)
